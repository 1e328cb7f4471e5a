-- A record's image is read back.
use Prim.Native.Nat.{ℕ, ◌+◌, ◌-◌, ◌/◌, ◌%◌, ◌<◌}
use native.Mathlib.Omega.{arith}
use native.Mathlib.Numerals.{add-one}
use mathlib.Core.Path.{◌≡◌, refl, sym, ap, ◌∙◌}
use mathlib.Core.List.{List, ◌∷◌, ◌++◌}
use lib.ListN.{length, get_or, drop, length-drop}
use lib.Seq.{drop-cons}
use Rattle.format.specs.declared.Record.{Record}
use Rattle.format.specs.declared.Record.TheVariants.{Variable, Constant, Compound, Formula, Clause, Goal, End}
use Rattle.format.specs.Reading.{body_length, number_at, record_at}
use Rattle.format.specs.Format.{record_kind, encode_record}

-- the first byte of what is left
pub record Head (s : List ℕ) (i x : ℕ) (l : List ℕ) : Type 0 where
  pub here : get_or s i 0 ≡ x
  pub later : drop (i + 1) s ≡ l
  pub within : i < length s

pub head_of : (s : List ℕ) (i x : ℕ) (l : List ℕ) → drop i s ≡ x ∷ l → Head s i x l
head_of s i x l e =
    let h : i < length s = omega (arith, length-drop i s, ap length e) in
    let c = drop-cons s i 0 h in
    let q = ap (λ (n : ℕ). drop n s) (add-one i) in
    record { here = cc; later = cc; within = h }

-- a record at the front of what is left is read back
pub record Encoded (s : List ℕ) (at : ℕ) (r : Record) (l : List ℕ) : Type 0 where
  pub kind : get_or s at 0 ≡ record_kind r
  pub body : body_length (record_kind r) < length s - at
  pub item : record_at s at (record_kind r) ≡ r
  pub later : drop (at + 1 + body_length (record_kind r)) s ≡ l

record NumberAt (s : List ℕ) (at k n : ℕ) (l : List ℕ) : Type 0 where
  kind : get_or s at 0 ≡ k
  body : 2 < length s - at
  is : number_at s (at + 1) ≡ n
  later : drop (at + 1 + 2) s ≡ l

number-back : (s : List ℕ) (at k n : ℕ) (l : List ℕ) → drop at s ≡ k ∷ n / 256 ∷ n % 256 ∷ l → NumberAt s at k n l
unfolding number_at
number-back s at k n l e =
    let a = head_of s at k _ e in
    let b = head_of s (at + 1) (n / 256) _ a.later in
    let d = head_of s (at + 1 + 1) (n % 256) _ b.later in
    let p = b.here in
    let q = d.here in
    let w = d.within in
    record { kind = a.here; body = omega arith; is = omega arith; later = ap (λ (i : ℕ). drop i s) (let z : at + 1 + 2 ≡ at + 1 + 1 + 1 = omega arith in z) ∙ d.later }

record Symboled (s : List ℕ) (at k n a : ℕ) (l : List ℕ) : Type 0 where
  kind : get_or s at 0 ≡ k
  body : 3 < length s - at
  is : number_at s (at + 1) ≡ n
  arity : get_or s (at + 3) 0 ≡ a
  later : drop (at + 1 + 3) s ≡ l

symbol-back : (s : List ℕ) (at k n a : ℕ) (l : List ℕ) → drop at s ≡ k ∷ n / 256 ∷ n % 256 ∷ a ∷ l → Symboled s at k n a l
symbol-back s at k n a l e =
    let b = number-back s at k n (a ∷ l) e in
    let z : at + 1 + 2 ≡ at + 3 = omega arith in
    let d = head_of s (at + 3) a l (ap (λ (i : ℕ). drop i s) (sym z) ∙ b.later) in
    let w = d.within in
    record { kind = b.kind; body = omega arith; is = b.is; arity = d.here; later = ap (λ (i : ℕ). drop i s) (let y : at + 1 + 3 ≡ at + 3 + 1 = omega arith in y) ∙ d.later }

pub encoded : (s : List ℕ) (at : ℕ) (r : Record) (l : List ℕ) → drop at s ≡ encode_record r ++ l → Encoded s at r l
unfolding body_length record_at
encoded s at (Variable v) l e = let b = number-back s at 1 v l e in record { kind = b.kind; body = b.body; item = ap Variable b.is; later = b.later }
encoded s at (Constant c) l e = let b = number-back s at 2 c l e in record { kind = b.kind; body = b.body; item = ap Constant b.is; later = b.later }
encoded s at (Compound f n) l e =
    let b = symbol-back s at 3 f n l e in
    record { kind = b.kind; body = b.body; item = λ i. Compound (b.is i) (b.arity i); later = b.later }
encoded s at (Formula p n) l e =
    let b = symbol-back s at 4 p n l e in
    record { kind = b.kind; body = b.body; item = λ i. Formula (b.is i) (b.arity i); later = b.later }
encoded s at (Clause n) l e =
    let a = head_of s at 5 _ e in
    let b = head_of s (at + 1) n l a.later in
    let w = b.within in
    record { kind = a.here; body = omega arith; item = ap Clause b.here; later = b.later }
encoded s at (Goal n) l e = let b = number-back s at 6 n l e in record { kind = b.kind; body = b.body; item = ap Goal b.is; later = b.later }
encoded s at End l e =
    let a = head_of s at 7 _ e in
    let w = a.within in
    record { kind = a.here; body = omega arith; item = refl; later = ap (λ (i : ℕ). drop i s) (let y : at + 1 + 0 ≡ at + 1 = omega arith in y) ∙ a.later }
