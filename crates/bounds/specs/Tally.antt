-- How often variables are in a clause's head, counted, and the counts taken one by one by its body.
use Rattle.std.specs.Prelude.{ℕ, suc, ◌+◌, ◌-◌, ◌≤◌, ◌≡◌, true, List, [], ◌∷◌, ◌++◌, length, get_or, take, drop}
use Rattle.terms.specs.Node.{Expr}
use Rattle.words.specs.Word.{Fits, nodes}
use Rattle.bounds.specs.Places.{places, times}
use Rattle.bounds.specs.Thrift.{fresh, Thrifty, Kept}
use Rattle.bounds.specs.declared.clauses.Noted.{Noted}
use Rattle.bounds.specs.declared.clauses.Taken.{Taken}
use Rattle.bounds.specs.declared.clauses.Thrift.{Thrift}

-- for each variable of a, how often b may still have it, and one more; 0 for the others
pub record Tally (a b : Expr) (counts : List ℕ) : Type 0 where
  pub none : (x : ℕ) → times x a ≡ 0 → get_or counts x 0 ≡ 0
  pub some : (x : ℕ) → (times x a ≡ 0 → ⊥) → 1 ≤ get_or counts x 0
  pub left : (x : ℕ) → (times x a ≡ 0 → ⊥) → get_or counts x 0 + times x b ≡ suc (times x a)

-- the words w of the head are counted
pub record Noting (w counts : List ℕ) (n : Noted) : Type 0 where
  pub tally : Tally (nodes w) [] counts
  pub places : n.places ≡ places (nodes w)
  pub names : Fits n.names w
  pub few : n.names ≤ 64

-- the word u too
abbrev pub NotedOn : ℕ → List ℕ → Noted → List ℕ → Noted → Type 0
NotedOn u counts n counts' r = (w : List ℕ) → Noting w counts n → Noting (w ++ (u ∷ [])) counts' r

-- behind b the words w of the body have taken their counts
pub record Taking (a b : Expr) (w counts : List ℕ) (t : Taken) : Type 0 where
  pub tally : Tally a (b ++ nodes w) counts
  pub fresh : t.fresh ≡ fresh a (nodes w)
  pub matched : t.matched + t.fresh ≡ places (nodes w)
  pub names : Fits t.names w
  pub few : t.names ≤ 64

-- the words `on` too
pub record Took (on counts : List ℕ) (t : Taken) (counts' : List ℕ) (r : Taken) : Type 0 where
  pub more : r.matched + r.fresh ≤ t.matched + t.fresh + length on
  pub taken : (a b : Expr) (w : List ℕ) → Taking a b w counts t → Taking a b (w ++ on) counts' r

-- What is said of a clause: its head is the first `head` words, and the first formula of its body ends at `first`.
pub record Thrifts (clause : List ℕ) (head first : ℕ) (r : Thrift) : Type 0 where
  pub few : r.names ≤ 64
  pub names : Fits r.names clause
  pub small : r.fresh ≤ 256
  pub fresh : r.fresh ≡ fresh (nodes (take head clause)) (nodes (drop head clause))
  pub thrifty : Thrifty (nodes (take head clause)) (nodes (drop head clause))
  pub kept : r.whole ≡ true → Kept (nodes (take head clause)) (nodes (take (first - head) (drop head clause)))
