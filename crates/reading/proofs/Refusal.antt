-- What each refusal says of the text (document 02, C-13).
use Rattle.std.specs.Prelude.{ℕ, suc, ◌+◌, ◌≤◌, ◌<◌, ◌≡◌, refl, true, List, ◌∷◌, ◌++◌, length, leb, ltb}
use Rattle.std.proofs.Common.{sym as inv, arith, leb-true, ltb-true, ltb-false}
use Rattle.terms.specs.Cases.{cases}
use Rattle.format.specs.Format.{encode_book}
use Rattle.grammar.specs.Token.{Token, name, variable, opening, closing, comma, arrow, stop, Piece, token, spelling, bytes, Stands, tokens}
use Rattle.grammar.specs.Front.{front, broken, front_of}
use Rattle.grammar.specs.FrontLaws.{Half, shown}
use Rattle.grammar.specs.Syntax.{Rule}
use Rattle.grammar.specs.Names.{book, with_variable}
use Rattle.grammar.specs.Reading.{SmallRules, Writes}
use Rattle.reading.specs.Part.{Part, formulas, inside, State, start, taken, next}
use Rattle.reading.specs.Reader.{nodes, variables, size, full, crowded, limit, long, Outcome, read, refused, walk, fitting, reading}
use Rattle.reading.specs.PrintLaws.{printed}
use Rattle.reading.proofs.LimitLaws.{not_full, Passes, name-passes}
use Rattle.reading.specs.Limits.{SmallState, Room}
use Rattle.reading.proofs.SoundLaws.{Found, sound}
use Rattle.reading.proofs.Stop.{SpacedTo, Fault, early, strange, misplaced, half_misplaced, half, long_name, too_many, Stops}
use Rattle.reading.proofs.StopLaws.{stops}
use Rattle.reading.proofs.Viable.{came}
use Rattle.reading.proofs.Whole.{Healthy}
use Rattle.reading.proofs.Unexpected.{Unexpected}
use Rattle.reading.proofs.UnexpectedLaws.{strange-means, misplaced-means, half-misplaced-means, half-means, early-means}
use Rattle.reading.proofs.ReadingLaws.{start_small}

-- The bytes before a place are pieces whose tokens are those of whole rules and of a part of the next, all within the sizes: no other refusal stands there.
pub record Before (text : List ℕ) (at : ℕ) (s : State) : Type 0 where
  pub pieces : List Piece
  pub left : List ℕ
  pub whole : text ≡ bytes pieces ++ left
  pub place : at ≡ length (bytes pieces)
  pub spaced : SpacedTo pieces left
  pub makes : (r : List Token) → tokens pieces ++ r ≡ printed s r
  pub healthy : Healthy s.part s.mode
  pub small : SmallState s
  pub short : length text ≤ 65536

-- A token at a place with which a text of the grammar can go on
pub record Reached (text : List ℕ) (at : ℕ) (s : State) (t : Token) : Type 0 where
  pub before : Before text at s
  pub rest : List ℕ
  pub token_there : before.left ≡ spelling t ++ rest
  pub stands : Stands t rest
  pub goes : State
  pub takes : next s.rules s.part s.mode t ≡ taken goes

-- a name or a variable: it begins an argument, a formula or a clause
abbrev pub Begins : Token → Type 0
Begins (name w) = Unit {0}
Begins (variable w) = Unit {0}
Begins opening = ⊥
Begins closing = ⊥
Begins comma = ⊥
Begins arrow = ⊥
Begins stop = ⊥

-- it would be the 9th argument, or the 17th formula of a body (the head is one formula more)
abbrev pub Ninth : Part → Type 0
Ninth (formulas fs) = 17 ≤ length fs
Ninth (inside p v d) = 8 ≤ size d

-- it would be the 257th node of its clause, be in the 513th clause, or be the clause's 65th variable
pub data Passed (s : State) : Token → Type 0 where
  nodes_passed : {t : Token} → 256 ≤ nodes s.part → Passed s t
  rules_passed : {t : Token} → 512 ≤ length s.rules → Passed s t
  variables_passed : {w : List ℕ} → 65 ≤ length (with_variable (variables s.part) w) → Passed s (variable w)

pub data Refusal (text : List ℕ) : ℕ → ℕ → Type 0 where
  long_text : 65536 < length text → Refusal text 40 0
  unexpected_byte : {at : ℕ} {s : State} → Before text at s → Unexpected text at → Refusal text 41 at
  unexpected_second : {at : ℕ} {s n : State} (t : Token) (b : Before text at s) → Half t b.left → next s.rules s.part s.mode t ≡ taken n → Unexpected text (at + 1) →
      Refusal text 41 (at + 1)
  longest_name : {at : ℕ} {s : State} {w : List ℕ} → Reached text at s (name w) → Room s.part → (Passed s (name w) → ⊥) → 33 ≤ length w → Refusal text 42 (at + 32)
  out_of_range : {at : ℕ} {s : State} {t : Token} → Reached text at s t → Begins t → Ninth s.part → Refusal text 4 at
  size_passed : {at : ℕ} {s : State} {t : Token} → Reached text at s t → Begins t → Room s.part → Passed s t → Refusal text 5 at
  long_book : (cs : List Rule) → length text ≤ 65536 → Writes text cs → SmallRules cs → length cs ≤ 512 → 32768 < length (encode_book (book cs)) → Refusal text 5 (length text)

-- The tests

full-means : (p : Part) → full p ≡ true → Ninth p
full-means (formulas fs) e = leb-true _ (length fs) e
full-means (inside p v d) e = leb-true _ (size d) e

pub long-means : (t : Token) → long t ≡ true → (w : List ℕ) × (t ≡ name w) × (33 ≤ length w)
long-means (name w) e = (w, refl, leb-true _ (length w) e)
long-means (variable w) e = let z : ◌≡◌ {A = ℕ} 0 1 = cc in absurd (omega arith)
long-means opening e = let z : ◌≡◌ {A = ℕ} 0 1 = cc in absurd (omega arith)
long-means closing e = let z : ◌≡◌ {A = ℕ} 0 1 = cc in absurd (omega arith)
long-means comma e = let z : ◌≡◌ {A = ℕ} 0 1 = cc in absurd (omega arith)
long-means arrow e = let z : ◌≡◌ {A = ℕ} 0 1 = cc in absurd (omega arith)
long-means stop e = let z : ◌≡◌ {A = ℕ} 0 1 = cc in absurd (omega arith)

-- the code of a size that is passed, and why
data Limits (s : State) (t : Token) : ℕ → Type 0 where
  by_range : Begins t → Ninth s.part → Limits s t 4
  by_size : Begins t → Room s.part → Passed s t → Limits s t 5
  by_none : Limits s t 0

crowded-passed : (s : State) (t : Token) → crowded s.rules s.part ≡ true → Passed s t
crowded-passed s t e =
    cases (leb 256 (nodes s.part)) (λ h. nodes_passed (leb-true 256 (nodes s.part) h))
    (λ h. rules_passed (leb-true 512 (length s.rules) (rw h at e)))

limits : (s : State) (t : Token) → Limits s t (limit s.rules s.part t)
limits s (name w) =
    cases (full s.part) (λ h. rw h (by_range tt (full-means s.part h)))
    (λ h. cases (crowded s.rules s.part) (λ k. rw (h, k) (by_size tt (not_full s.part h) (crowded-passed s (name w) k))) (λ k. rw (h, k) by_none))
limits s (variable w) =
    cases (full s.part) (λ h. rw h (by_range tt (full-means s.part h)))
    (λ h.
    cases (crowded s.rules s.part) (λ k. rw (h, k) (by_size tt (not_full s.part h) (crowded-passed s (variable w) k)))
    (λ k.
    cases (leb 65 (length (with_variable (variables s.part) w)))
    (λ l. rw (h, k, l) (by_size tt (not_full s.part h) (variables_passed (leb-true 65 (length (with_variable (variables s.part) w)) l))))
    (λ l. rw (h, k, l) by_none)))
limits s opening = by_none
limits s closing = by_none
limits s comma = by_none
limits s arrow = by_none
limits s stop = by_none

-- a name that passes the tests is not one too many
passes-not : (s : State) (w : List ℕ) → Passes s.rules s.part → Passed s (name w) → ⊥
passes-not s w p (nodes_passed h) = omega (arith, h, p.nodes)
passes-not s w p (rules_passed h) = omega (arith, h, p.rules)

-- The reader

module _ (text : List ℕ) (c i : ℕ) (st : Stops start 0 text c i) (short : length text ≤ 65536) where
  abbrev before : Before text (length (bytes st.pieces)) st.to
  before =
      record {
        pieces = st.pieces;
        left = st.left;
        whole = st.whole;
        place = refl;
        spaced = st.spaced;
        makes = (came st.pieces start st.to refl st.reaches).makes;
        healthy = (came st.pieces start st.to refl st.reaches).healthy;
        small = st.small;
        short = short;
      }

  reached : {t : Token} {r : List ℕ} {n : State} → front_of st.left ≡ front (token t) r → next st.to.rules st.to.part st.to.mode t ≡ taken n →
      Reached text (length (bytes st.pieces)) st.to t
  reached {t} {r} {n} f k =
      let h = rw f at (shown st.left) in
      record { before = before; rest = r; token_there = h.0; stands = h.1; goes = n; takes = k }

  limit-refusal : {t : Token} (m : ℕ) → Reached text (length (bytes st.pieces)) st.to t → Limits st.to t m → (k : ℕ) → m ≡ suc k → Refusal text m (length (bytes st.pieces))
  limit-refusal m r (by_range b h) k e = out_of_range r b h
  limit-refusal m r (by_size b h p) k e = size_passed r b h p
  limit-refusal m r by_none k e = absurd (omega arith)

  named-refusal : (w : List ℕ) → Reached text (length (bytes st.pieces)) st.to (name w) → limit st.to.rules st.to.part (name w) ≡ 0 → 33 ≤ length w →
      Refusal text 42 (length (bytes st.pieces) + 32)
  named-refusal w r m l = let p = name-passes st.to.rules st.to.part w m in longest_name r p.room (passes-not st.to w p) l

  half-there : (b : ℕ) (x : List ℕ) (t : Token) → st.left ≡ b ∷ x → front_of (b ∷ x) ≡ broken t → Half t st.left
  half-there b x t l f = rw l (rw f at (shown (b ∷ x)))

  fault-refusal : (a k j : ℕ) → a ≡ length (bytes st.pieces) → Fault st.to a st.left k j → Refusal text k j
  fault-refusal a k j e (early l b) = rw e (unexpected_byte before (early-means text st.left st.pieces st.to st.whole st.spaced st.reaches l b))
  fault-refusal a k j e (strange {b} {x} l q) = rw e (unexpected_byte before (strange-means text st.left st.pieces st.to st.whole st.spaced st.reaches b x l q))
  fault-refusal a k j e (misplaced {b} {x} {r} {t} l f w) =
      rw e (unexpected_byte before (misplaced-means text st.left st.pieces st.to st.whole st.spaced st.reaches b x r t l f w))
  fault-refusal a k j e (half_misplaced {b} {x} {t} l f w) =
      rw e (unexpected_byte before (half-misplaced-means text st.left st.pieces st.to st.whole st.spaced st.reaches b x t l f w))
  fault-refusal a k j e (half {b} {x} {t} {n} l f w) =
      rw e (unexpected_second t before (half-there b x t l f) w (half-means text st.left st.pieces st.to st.whole st.spaced st.reaches b x t n l f w))
  fault-refusal a k j e (long_name {t} {r} {n} f w m l) = let q = long-means t l in rw e (named-refusal q.0 (rw q.1 at (reached f w)) (rw q.1 at m) q.2)
  fault-refusal a k j e (too_many {t} {r} {n} {c = d} f w m) = rw e (rw m at (limit-refusal (limit st.to.rules st.to.part t) (reached f w) (limits st.to t) d m))

fitting-refused : (text : List ℕ) (o : Outcome) (c i : ℕ) → length text ≤ 65536 → ((cs : List Rule) → o ≡ read cs → Found start text cs) → (o ≡ refused c i → Refusal text c i) → fitting (length text) o ≡ refused c i → Refusal text c i
fitting-refused text (refused d j) c i short f g e = g e
fitting-refused text (read cs) c i short f g e =
    cases (ltb 32768 (length (encode_book (book cs))))
    (λ t.
    let q : refused 5 (length text) ≡ refused c i = rw t at e in
    let p : 5 ≡ c = cc in
    let r : length text ≡ i = cc in
    let w = f cs refl in
    rw p at (rw r at (let z : Refusal text 5 (length text) = long_book cs short (record { pieces = w.pieces; spaced = w.spaced; whole = w.whole; listed = inv w.makes }) w.small w.few (ltb-true 32768 (length (encode_book (book cs))) t) in z)))
    (λ t. let q : read cs ≡ refused c i = rw t at e in let z : ◌≡◌ {A = ℕ} 0 1 = cc in absurd (omega arith))

-- what the reader's refusal says
pub refusal : (text : List ℕ) (c i : ℕ) → reading text ≡ refused c i → Refusal text c i
unfolding reading
refusal text c i e =
    cases (ltb 65536 (length text))
    (λ t.
    let q : refused 40 0 ≡ refused c i = rw t at e in
    let p : 40 ≡ c = cc in
    let r : 0 ≡ i = cc in
    rw p at (rw r at (let z : Refusal text 40 0 = long_text (ltb-true 65536 (length text) t) in z)))
    (λ t.
    fitting-refused text (walk (suc (length text)) start 0 text) c i (ltb-false 65536 (length text) t)
    (λ cs h. sound (suc (length text)) start 0 text cs (omega arith) refl start_small h)
    (λ h. let st = stops (suc (length text)) start 0 text c i (omega arith) start_small h in fault-refusal text c i st (ltb-false 65536 (length text) t) (0 + length (bytes st.pieces)) c i (omega arith) st.fault)
    (rw t at e))
