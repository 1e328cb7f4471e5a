-- The record at the front of what is left of an image; and where the loading of a goal stands between two records.
use Prim.Native.Nat.{ℕ, zero, suc, ◌+◌, ◌*◌, ◌≤◌, ◌<◌}
use native.Mathlib.Omega.{arith}
use mathlib.Core.Path.{◌≡◌, refl, sym as inv, ap}
use mathlib.Core.List.{List, [], ◌∷◌}
use lib.Dec.{lit≤}
use lib.ListN.{length, get_or, drop, set, length-drop}
use Rattle.terms.specs.Node.{constant, compound, predicate, Node, var, sym, Expr}
use Rattle.words.specs.Flat.{flat, flat-size}
use Rattle.words.specs.Word.{word, words_of}
use Rattle.words.specs.PackLaws.{words-length}
use Rattle.format.specs.declared.Record.{Record}
use Rattle.format.specs.declared.Record.TheVariants.{Goal}
use Rattle.format.specs.Reading.{body_length, number_at, record_at, Askable}
use Rattle.format.specs.Format.{record_kind, encode, node_record, node_records, Bytes}
use Rattle.format.specs.Decode.{goal_of}
use Rattle.format.specs.Words.{word_of, record_word, goal_words}
use Rattle.storage.specs.Storage.{Written, NodeAt}
use Rattle.format.proofs.Encoded.{encoded}
use Rattle.format.proofs.Decoding.{goal_of-good}
use Rattle.storage.proofs.Filling.{Filling, filling-start, filling-length, filling-room, filling-done, filling-next}

-- the record at a place, and what is left behind it
pub record Front (s : List ℕ) (at : ℕ) (r : Record) (rs : List Record) : Type 0 where
  pub kind : get_or s at 0 ≡ record_kind r
  pub here : at < length s
  pub body : at + body_length (get_or s at 0) < length s
  pub item : record_at s at (get_or s at 0) ≡ r
  pub later : drop (at + 1 + body_length (get_or s at 0)) s ≡ encode rs

pub front : (s : List ℕ) (at : ℕ) (r : Record) (rs : List Record) → drop at s ≡ encode (r ∷ rs) → Front s at r rs
front s at r rs e =
    let b = encoded s at r (encode rs) e in
    let k = b.body in
    record { kind = b.kind; here = omega arith; body = rw b.kind (omega arith); item = rw b.kind b.item; later = rw b.kind b.later }

-- The records of nodes

node-kind : (x : Node) → (1 ≤ record_kind (node_record x)) × (record_kind (node_record x) ≤ 4)
node-kind (var v) = (lit≤ tt, lit≤ tt)
node-kind (sym (constant c)) = (lit≤ tt, lit≤ tt)
node-kind (sym (compound f n)) = (lit≤ tt, lit≤ tt)
node-kind (sym (predicate p n)) = (lit≤ tt, lit≤ tt)

pub node-high : {s : List ℕ} {at : ℕ} (x : Node) {rs : List Record} → Front s at (node_record x) rs → get_or s at 0 ≤ 4
node-high x f = omega (arith, f.kind, node-kind x)

pub node_at : {s : List ℕ} {at : ℕ} (x : Node) {rs : List Record} → Front s at (node_record x) rs → NodeAt s at
node_at x f = record { body = f.body; low = omega (arith, f.kind, node-kind x); high = node-high x f }

body-some : (k : ℕ) → 1 ≤ k → k ≤ 4 → 2 ≤ body_length k
unfolding body_length
body-some zero l h = absurd (omega arith)
body-some (suc zero) l h = lit≤ tt
body-some (suc (suc zero)) l h = lit≤ tt
body-some (suc (suc (suc zero))) l h = lit≤ tt
body-some (suc (suc (suc (suc zero)))) l h = lit≤ tt
body-some (suc (suc (suc (suc (suc k))))) l h = absurd (omega arith)

body-led : (k : ℕ) → 2 < k → k ≤ 4 → body_length k ≡ 3
unfolding body_length
body-led zero l h = absurd (omega arith)
body-led (suc zero) l h = absurd (omega arith)
body-led (suc (suc zero)) l h = absurd (omega arith)
body-led (suc (suc (suc zero))) l h = refl
body-led (suc (suc (suc (suc zero)))) l h = refl
body-led (suc (suc (suc (suc (suc k))))) l h = absurd (omega arith)

body-bare : (k : ℕ) → 1 ≤ k → k ≤ 2 → body_length k ≡ 2
unfolding body_length
body-bare zero l h = absurd (omega arith)
body-bare (suc zero) l h = refl
body-bare (suc (suc zero)) l h = refl
body-bare (suc (suc (suc k))) l h = absurd (omega arith)

-- where the record after a node's starts
pub behind-bare : {s : List ℕ} {at : ℕ} → NodeAt s at → get_or s at 0 ≤ 2 → at + 3 ≡ at + 1 + body_length (get_or s at 0)
behind-bare {s} {at} n h = omega (arith, body-bare (get_or s at 0) n.low h)

pub behind-led : {s : List ℕ} {at : ℕ} → NodeAt s at → 2 < get_or s at 0 → at + 4 ≡ at + 1 + body_length (get_or s at 0)
behind-led {s} {at} n h = omega (arith, body-led (get_or s at 0) h n.high)

pub number-inside : {s : List ℕ} {at : ℕ} → NodeAt s at → at + 1 + 1 < length s
number-inside {s} {at} n = omega (arith, n.body, body-some (get_or s at 0) n.low n.high)

pub arity-inside : {s : List ℕ} {at : ℕ} → NodeAt s at → 2 < get_or s at 0 → at + 3 < length s
arity-inside {s} {at} n l = omega (arith, n.body, body-led (get_or s at 0) l n.high)

pub number-bytes : (s : List ℕ) (at : ℕ) → number_at s (at + 1) ≡ get_or s (at + 1) 0 * 256 + get_or s (at + 2) 0
unfolding number_at
number-bytes s at = ap (λ k. get_or s (at + 1) 0 * 256 + get_or s k 0) (omega arith)

-- a word is its record's bytes in another order
pub word-bare : (s : List ℕ) (at k : ℕ) → 1 ≤ k → k ≤ 2 → word_of (record_at s at k) ≡ k * 0x100_0000 + number_at s (at + 1)
unfolding record_at word_of word
word-bare s at zero l h = absurd (omega arith)
word-bare s at (suc zero) l h = omega arith
word-bare s at (suc (suc zero)) l h = omega arith
word-bare s at (suc (suc (suc k))) l h = absurd (omega arith)

pub word-led : (s : List ℕ) (at k : ℕ) → 2 < k → k ≤ 4 → word_of (record_at s at k) ≡ k * 0x100_0000 + number_at s (at + 1) + get_or s (at + 3) 0 * 0x1_0000
unfolding record_at word_of word
word-led s at zero l h = absurd (omega arith)
word-led s at (suc zero) l h = absurd (omega arith)
word-led s at (suc (suc zero)) l h = absurd (omega arith)
word-led s at (suc (suc (suc zero))) l h = omega arith
word-led s at (suc (suc (suc (suc zero)))) l h = omega arith
word-led s at (suc (suc (suc (suc (suc k))))) l h = absurd (omega arith)

-- of the query's nodes, those of `rest` are still to be written
pub record GoalLoading (query before words : List ℕ) (n at : ℕ) : Type 0 where
  rest : Expr
  image : drop at query ≡ encode (node_records rest)
  fill : Filling (goal_words (goal_of query)) before words n (words_of rest)
  pub few : n + length rest ≤ 4096
  pub kept : length words ≡ length before

pub goal-start : (query before : List ℕ) → Bytes query → Askable query → 4096 ≤ length before → GoalLoading query before before 0 3
goal-start query before bytes z h =
    let q = goal_of-good z.book query bytes z.good in
    let g = goal_of query in
    let few : length (flat g) ≤ 4096 = omega (arith, flat-size g, q.0.fitting.size) in
    record {
      rest = flat g;
      image = ap (drop 3) (inv q.1);
      fill = filling-start (omega (arith, words-length (flat g)));
      few = omega arith;
      kept = refl;
    }

-- the number of formulas stands behind the kind byte
pub goal-count : (query : List ℕ) → Bytes query → Askable query → (2 < length query) × (number_at query 1 ≡ length (goal_of query))
unfolding body_length record_at
goal-count query bytes z =
    let q = goal_of-good z.book query bytes z.good in
    let b = encoded query 0 (Goal (length (goal_of query))) (encode (node_records (flat (goal_of query)))) (inv q.1) in
    let i = b.item in
    (omega (arith, b.body), cc)

module _ {query before words : List ℕ} {n at : ℕ} (g : GoalLoading query before words n at) where
  -- the next node
  record GoalNode : Type 0 where
    here : NodeAt query at
    room : n < length words
    next : GoalLoading query before (set words n (word_of (record_at query at (get_or query at 0)))) (n + 1) (at + 1 + body_length (get_or query at 0))

  goal-node : at < length query → GoalNode
  goal-node h = go g.rest g.image g.fill g.few
    where
      go : (e : Expr) → drop at query ≡ encode (node_records e) → Filling (goal_words (goal_of query)) before words n (words_of e) → n + length e ≤ 4096 → GoalNode
      go [] i f few = absurd (omega (arith, length-drop at query, ap length i))
      go (x ∷ e) i f few =
          let b = front query at (node_record x) (node_records e) i in
          let m = filling-next f in
          record {
            here = node_at x b;
            room = filling-room f;
            next = record { rest = e; image = b.later; fill = rw (b.item, record_word x) m; few = omega arith; kept = rw (b.item, record_word x) (filling-length m) };
          }

  pub goal-body : at < length query → at + body_length (get_or query at 0) < length query
  goal-body h = (goal-node h).here.body

  pub goal_at : at < length query → NodeAt query at
  goal_at h = (goal-node h).here

  pub goal_room : at < length query → n < length words
  goal_room h = (goal-node h).room

  pub goal-next : (w a : ℕ) → at < length query → w ≡ word_of (record_at query at (get_or query at 0)) → a ≡ at + 1 + body_length (get_or query at 0) →
      GoalLoading query before (set words n w) (n + 1) a
  goal-next w a h p q = rw (p, q) (goal-node h).next

  pub goal-end : length query ≤ at → Written (goal_words (goal_of query)) before words n
  goal-end h = go g.rest g.image g.fill
    where
      go : (e : Expr) → drop at query ≡ encode (node_records e) → Filling (goal_words (goal_of query)) before words n (words_of e) → Written (goal_words (goal_of query)) before words n
      go [] i f = filling-done f
      go (x ∷ e) i f = absurd (omega (arith, (front query at (node_record x) (node_records e) i).here))

pub ruleset goal-loading = (goal-body, goal_at, goal_room, goal-next, goal-end)
