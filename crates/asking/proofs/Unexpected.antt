-- "41 unexpected byte (the text's length if it ends early)": the first byte with which no query's text can go on.
use Rattle.std.specs.Prelude.{ℕ, suc, ◌+◌, ◌-◌, ◌≤◌, ◌<◌, ◌≡◌, List, [], ◌++◌, length, take, drop}
use Rattle.std.proofs.Common.{sym as inv, ap, ◌∙◌, append_assoc, append-nil, arith, take-add, take_all}
use Rattle.std.proofs.Math.Decide.{dec_lt}
use Rattle.grammar.specs.Syntax.{Formula}
use Rattle.grammar.specs.Query.{Asks}
use Rattle.asking.proofs.Viable.{Viable}

-- the first place with which no text goes on, or where this one ends early
pub data Unexpected (text : List ℕ) (i : ℕ) : Type 0 where
  too_early : i ≡ length text → Viable text → ((fs : List Formula) → Asks text fs → ⊥) → Unexpected text i
  no_further : i < length text → Viable (take i text) → (Viable (take (suc i) text) → ⊥) → Unexpected text i

-- There is one place at most

-- what begins a beginning of a text begins a text
viable-front : (x y : List ℕ) → Viable (x ++ y) → Viable x
viable-front x y v = record { rest = y ++ v.rest; formulas = v.formulas; asks = rw (append_assoc x y v.rest) at v.asks }

pub viable-take : (text : List ℕ) (i j : ℕ) → i ≤ j → Viable (take j text) → Viable (take i text)
viable-take text i j h v =
    viable-front (take i text) (take (j - i) (drop i text)) (rw (ap (λ (k : ℕ). take k text) (let q : j ≡ i + (j - i) = omega arith in q) ∙ take-add i (j - i) text) at v)

viable-whole : (text : List ℕ) (i : ℕ) → i ≤ length text → Viable text → Viable (take i text)
viable-whole text i h v = viable-take text i (length text) h (rw (take_all (length text) text (omega arith)) v)

not-before : (text : List ℕ) (i j : ℕ) → i < j → Viable (take j text) → (Viable (take (suc i) text) → ⊥) → ⊥
not-before text i j h v d = d (viable-take text (suc i) j h v)

pub unexpected-one : {text : List ℕ} (i j : ℕ) → Unexpected text i → Unexpected text j → i ≡ j
unexpected-one i j (too_early p v d) (too_early q w e) = p ∙ inv q
unexpected-one {text} i j (too_early p v d) (no_further l w e) = absurd (e (viable-whole text (suc j) l v))
unexpected-one {text} i j (no_further l v d) (too_early q w e) = absurd (d (viable-whole text (suc i) l w))
unexpected-one {text} i j (no_further l v d) (no_further k w e) =
    elim (dec_lt i j) [
      | yes h ↦ absurd (not-before text i j h w d)
      | no h ↦ elim (dec_lt j i) [ yes g ↦ absurd (not-before text j i g v e) | no g ↦ omega arith ]
    ]

-- what begins a text has no unexpected byte
pub viable-before : {text : List ℕ} (i j : ℕ) → Unexpected text i → Viable (take j text) → j ≤ length text → j ≤ i
viable-before i j (too_early e v d) w l = omega arith
viable-before {text} i j (no_further k v d) w l = elim (dec_lt i j) [ yes h ↦ absurd (not-before text i j h w d) | no h ↦ omega arith ]

-- and a query's text has none
pub not-asked : {text : List ℕ} {i : ℕ} (fs : List Formula) → Unexpected text i → Asks text fs → ⊥
not-asked fs (too_early e v d) w = d fs w
not-asked {text} {i} fs (no_further l v d) w = d (viable-whole text (suc i) l (record { rest = []; formulas = fs; asks = rw (append-nil text) w }))
