-- What may stand next, and the record that bytes are the image of.
use Prim.Native.Nat.{ℕ, zero, suc, ◌+◌, ◌-◌, ◌*◌, ◌/◌, ◌%◌, ◌≤◌, ◌<◌}
use native.Mathlib.Omega.{arith}
use borrow.Author.Tests.{leb-true, eqb-true, ltb-true, ltb-false}
use mathlib.Core.Path.{◌≡◌, refl, ap, ◌∙◌}
use mathlib.Core.Bool.{Bool, true, false, ◌&&◌}
use mathlib.Core.List.{List, ◌∷◌, ◌++◌}
use lib.ListN.{length, get_or, drop}
use lib.Seq.{drop-cons}
use lib.Dec.{eqb, leb, ltb}
use Rattle.terms.specs.When.{◌⇒◌∣◌}
use Rattle.format.specs.declared.State.{State}
use Rattle.format.specs.declared.Form.{Form}
use Rattle.format.specs.declared.Form.TheVariants.{Book, Query}
use Rattle.format.specs.declared.Record.{Record}
use Rattle.format.specs.declared.Record.TheVariants.{Variable, Constant, Compound, Formula, Clause, Goal, End}
use Rattle.format.specs.Reading.{opens, allowed, body_length, number_at, record_at}
use Rattle.format.specs.Format.{record_kind, encode_record, Bytes}
use Rattle.format.proofs.Tests.{and_both}

-- the numbers of a record fit their bytes
abbrev pub NarrowRecord : Record → Type 0
NarrowRecord (Variable v) = v < 65536
NarrowRecord (Constant c) = c < 65536
NarrowRecord (Compound f n) = f < 65536
NarrowRecord (Formula p n) = p < 65536
NarrowRecord (Clause n) = Unit
NarrowRecord (Goal n) = Unit
NarrowRecord End = Unit

-- a kind that is allowed is one of seven
pub data Kinded : ℕ → Type 0 where
  k1 : Kinded 1
  k2 : Kinded 2
  k3 : Kinded 3
  k4 : Kinded 4
  k5 : Kinded 5
  k6 : Kinded 6
  k7 : Kinded 7

kinded : (k : ℕ) → 1 ≤ k → k ≤ 7 → Kinded k
kinded zero p q = absurd (omega arith)
kinded (suc zero) p q = k1
kinded (suc (suc zero)) p q = k2
kinded (suc (suc (suc zero))) p q = k3
kinded (suc (suc (suc (suc zero)))) p q = k4
kinded (suc (suc (suc (suc (suc zero))))) p q = k5
kinded (suc (suc (suc (suc (suc (suc zero)))))) p q = k6
kinded (suc (suc (suc (suc (suc (suc (suc zero))))))) p q = k7
kinded (suc (suc (suc (suc (suc (suc (suc (suc k)))))))) p q = absurd (omega arith)

-- what may stand next
pub data Allowed (form : Form) (state : State) (k : ℕ) : Type 0 where
  as_term : 0 < state.terms → 1 ≤ k → k ≤ 3 → Allowed form state k
  as_formula : state.terms ≡ 0 → 0 < state.formulas → k ≡ 4 → Allowed form state k
  as_clause : state.terms ≡ 0 → state.formulas ≡ 0 → state.closed ≡ false → form ≡ Book → k ≡ 5 → Allowed form state k
  as_end : state.terms ≡ 0 → state.formulas ≡ 0 → state.closed ≡ false → form ≡ Book → k ≡ 7 → Allowed form state k
  as_goal : state.terms ≡ 0 → state.formulas ≡ 0 → state.closed ≡ false → form ≡ Query → k ≡ 6 → Allowed form state k

open_by : (form f : Form) (state : State) (k : ℕ) (a b : Bool) → form ≡ f → state.terms ≡ 0 → state.formulas ≡ 0 → state.closed ≡ false →
    eqb k 5 ≡ a → eqb k 7 ≡ b → opens f k ≡ true → Allowed form state k
open_by form Book state k true b f t n c p q e = as_clause t n c f (eqb-true k 5 p)
open_by form Book state k false true f t n c p q e = as_end t n c f (eqb-true k 7 q)
open_by form Book state k false false f t n c p q e = absurd ((let z : false ≡ true = simp (p, q) at e in cc))
open_by form Query state k a b f t n c p q e = as_goal t n c f (eqb-true k 6 e)

allowed-by : (form : Form) (state : State) (k : ℕ) (a b c : Bool) → ltb 0 state.terms ≡ a → ltb 0 state.formulas ≡ b → state.closed ≡ c →
    (a ⇒ leb 1 k && leb k 3 ∣ b ⇒ eqb k 4 ∣ c ⇒ false ∣ opens form k) ≡ true → Allowed form state k
allowed-by form state k true b c p q r e = as_term (ltb-true _ _ p) (leb-true 1 k (and_both (leb 1 k) (leb k 3) e).0) (leb-true k 3 (and_both (leb 1 k) (leb k 3) e).1)
allowed-by form state k false true c p q r e = as_formula (omega (arith, ltb-false 0 state.terms p)) (ltb-true _ _ q) (eqb-true k 4 e)
allowed-by form state k false false true p q r e = absurd (cc)
allowed-by form state k false false false p q r e =
    open_by form form state k _ _ refl (omega (arith, ltb-false 0 state.terms p)) (omega (arith, ltb-false 0 state.formulas q)) r refl refl e

pub allowed-is : (form : Form) (state : State) (k : ℕ) → allowed form state k ≡ true → Allowed form state k
unfolding allowed
allowed-is form state k e = allowed-by form state k _ _ _ refl refl refl e

pub allowed-kinded : (form : Form) (state : State) (k : ℕ) → Allowed form state k → Kinded k
allowed-kinded form state k (as_term t p q) = kinded k p (omega arith)
allowed-kinded form state k (as_formula t n e) = kinded k (omega arith) (omega arith)
allowed-kinded form state k (as_clause t n c f e) = kinded k (omega arith) (omega arith)
allowed-kinded form state k (as_end t n c f e) = kinded k (omega arith) (omega arith)
allowed-kinded form state k (as_goal t n c f e) = kinded k (omega arith) (omega arith)

-- the bytes of a record are its image
pub record Decoded (s : List ℕ) (at k : ℕ) : Type 0 where
  pub kind : record_kind (record_at s at k) ≡ k
  pub narrow : NarrowRecord (record_at s at k)
  pub image : drop at s ≡ encode_record (record_at s at k) ++ drop (at + 1 + body_length k) s

module _ (s : List ℕ) (bytes : Bytes s) (at : ℕ) where
  one : (i j : ℕ) → i < length s → j ≡ i + 1 → drop i s ≡ get_or s i 0 ∷ drop j s
  one i j h e = let q : suc i ≡ j = omega arith in drop-cons s i 0 h ∙ ap (λ (n : ℕ). get_or s i 0 ∷ drop n s) q

  two : (i j : ℕ) → i + 1 < length s → j ≡ i + 2 → drop i s ≡ get_or s i 0 ∷ get_or s (i + 1) 0 ∷ drop j s
  two i j h e = one i (i + 1) (omega arith) refl ∙ ap (λ (l : List ℕ). get_or s i 0 ∷ l) (one (i + 1) j h (omega arith))

  -- a number's two bytes
  number-image : (i j : ℕ) → i + 1 < length s → j ≡ i + 2 → drop i s ≡ number_at s i / 256 ∷ number_at s i % 256 ∷ drop j s
  unfolding number_at
  number-image i j h e =
      let hi : get_or s i 0 ≡ (get_or s i 0 * 256 + get_or s (i + 1) 0) / 256 = omega (arith, bytes i, bytes (i + 1)) in
      let lo : get_or s (i + 1) 0 ≡ (get_or s i 0 * 256 + get_or s (i + 1) 0) % 256 = omega (arith, bytes i, bytes (i + 1)) in
      two i j h e ∙ (λ k. hi k ∷ lo k ∷ drop j s)

  number-narrow : (i : ℕ) → number_at s i < 65536
  unfolding number_at
  number-narrow i = omega (arith, bytes i, bytes (i + 1))

  numbered-image : (k j : ℕ) → get_or s at 0 ≡ k → 2 < length s - at → j ≡ at + 3 → drop at s ≡ k ∷ number_at s (at + 1) / 256 ∷ number_at s (at + 1) % 256 ∷ drop j s
  numbered-image k j e h q = one at (at + 1) (omega arith) refl ∙ (λ i. e i ∷ number-image (at + 1) j (omega arith) (omega arith) i)

  symbol-image : (k j : ℕ) → get_or s at 0 ≡ k → 3 < length s - at → j ≡ at + 4 →
      drop at s ≡ k ∷ number_at s (at + 1) / 256 ∷ number_at s (at + 1) % 256 ∷ get_or s (at + 3) 0 ∷ drop j s
  symbol-image k j e h q =
      numbered-image k (at + 3) e (omega arith) refl ∙ ap (λ (l : List ℕ). k ∷ number_at s (at + 1) / 256 ∷ number_at s (at + 1) % 256 ∷ l) (one (at + 3) j (omega arith) (omega arith))

  pub decode : (k : ℕ) → Kinded k → get_or s at 0 ≡ k → body_length k < length s - at → Decoded s at k
  unfolding body_length record_at
  decode k k1 e h = record { kind = refl; narrow = number-narrow (at + 1); image = numbered-image 1 (at + 1 + 2) e h (omega arith) }
  decode k k2 e h = record { kind = refl; narrow = number-narrow (at + 1); image = numbered-image 2 (at + 1 + 2) e h (omega arith) }
  decode k k3 e h = record { kind = refl; narrow = number-narrow (at + 1); image = symbol-image 3 (at + 1 + 3) e h (omega arith) }
  decode k k4 e h = record { kind = refl; narrow = number-narrow (at + 1); image = symbol-image 4 (at + 1 + 3) e h (omega arith) }
  decode k k5 e h = record { kind = refl; narrow = tt; image = two at (at + 1 + 1) (omega arith) (omega arith) ∙ (λ i. e i ∷ get_or s (at + 1) 0 ∷ drop (at + 1 + 1) s) }
  decode k k6 e h = record { kind = refl; narrow = tt; image = numbered-image 6 (at + 1 + 2) e h (omega arith) }
  decode k k7 e h = record { kind = refl; narrow = tt; image = one at (at + 1 + 0) (omega arith) (omega arith) ∙ (λ i. e i ∷ drop (at + 1 + 0) s) }
