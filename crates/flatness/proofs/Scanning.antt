-- The scan for a compound record goes along the records of an input.
use Prim.Native.Nat.{ℕ, zero, suc, ◌+◌, ◌≤◌, ◌<◌}
use native.Mathlib.Omega.{arith}
use borrow.Author.Tests.{le-leb, lt-leb, eq-eqb, ne_eqb}
use mathlib.Core.Path.{◌≡◌, refl, sym as inv, ap, subst, ◌∙◌}
use mathlib.Core.List.{List, [], ◌∷◌, ◌++◌, append_assoc}
use lib.ListN.{length, get_or, drop, length-append}
use lib.Dec.{eqb, leb}
use Rattle.format.specs.declared.Record.{Record}
use Rattle.format.specs.declared.Record.TheVariants.{Variable, Constant, Compound, Formula, Clause, Goal, End}
use Rattle.format.specs.Reading.{body_length}
use Rattle.format.specs.Format.{record_kind, encode_record, encode}
use Rattle.format.proofs.Encoded.{encoded}
use Rattle.format.proofs.Taken.{pick_small}
use Rattle.format.proofs.Failing.{record_length}
use Rattle.flatness.proofs.Plain.{NotCompound, PlainRecords}
use Rattle.flatness.specs.Profile.{compound_from}

module _ (s : List ℕ) (end : ℕ) where
  pub scan-end : (k at : ℕ) → end ≤ at → compound_from k s at end ≡ end
  unfolding compound_from
  scan-end zero at l = refl
  scan-end (suc k) at l = simp (le-leb end at l)

  pub scan-found : (k at : ℕ) → at < end → get_or s at 0 ≡ 3 → compound_from (suc k) s at end ≡ at
  unfolding compound_from
  scan-found k at l e = simp (lt-leb end at l, eq-eqb (get_or s at 0) 3 e)

  pub scan-next : (k at : ℕ) → at < end → (get_or s at 0 ≡ 3 → ⊥) → compound_from (suc k) s at end ≡ compound_from k s (at + 1 + body_length (get_or s at 0)) end
  unfolding compound_from
  scan-next k at l n = simp (lt-leb end at l, ne_eqb (get_or s at 0) 3 n)

-- a record is a compound term, or it is not
pub data Sort (r : Record) : Type 0 where
  is_compound : (f n : ℕ) → r ≡ Compound f n → Sort r
  is_plain : NotCompound r → (record_kind r ≡ 3 → ⊥) → Sort r

pub sort : (r : Record) → Sort r
sort (Variable v) = is_plain tt (λ e. omega arith)
sort (Constant c) = is_plain tt (λ e. omega arith)
sort (Compound f n) = is_compound f n refl
sort (Formula p n) = is_plain tt (λ e. omega arith)
sort (Clause n) = is_plain tt (λ e. omega arith)
sort (Goal n) = is_plain tt (λ e. omega arith)
sort End = is_plain tt (λ e. omega arith)

pub plain-kind : (r : Record) → NotCompound r → record_kind r ≡ 3 → ⊥
plain-kind r p e = elim (sort r) [ is_compound f n q ↦ absurd (subst NotCompound q p) | is_plain x y ↦ y e ]

-- the first compound record of some records
pub record Split (rs : List Record) : Type 0 where
  pub before : List Record
  pub symbol : ℕ
  pub arity : ℕ
  pub more : List Record
  pub is : rs ≡ before ++ Compound symbol arity ∷ more
  pub plain : PlainRecords before

pub data Search (rs : List Record) : Type 0 where
  all_plain : PlainRecords rs → Search rs
  first : Split rs → Search rs

pub split : (rs : List Record) → Search rs
split [] = all_plain tt
split (r ∷ rs) = elim (sort r) [
  | is_compound f n e ↦ first (record { before = []; symbol = f; arity = n; more = rs; is = ap (λ (x : Record). x ∷ rs) e; plain = tt })
  | is_plain p q ↦ elim (split rs) [
    | all_plain x ↦ all_plain (p, x)
    | first x ↦ first (record { before = r ∷ x.before; symbol = x.symbol; arity = x.arity; more = x.more; is = ap (λ (l : List Record). r ∷ l) x.is; plain = (p, x.plain) })
  ]
]

-- where the scan stands: with so many records to go it answers what it does from the start
pub record Scan (s : List ℕ) (end at : ℕ) : Type 0 where
  pub fuel : ℕ
  pub enough : length s ≤ at + fuel
  pub same : compound_from fuel s at end ≡ compound_from (length s) s 0 end

pub scan-start : (s : List ℕ) (end : ℕ) → Scan s end 0
scan-start s end = record { fuel = length s; enough = omega arith; same = refl }

module _ (s : List ℕ) (end : ℕ) (short : end ≤ length s) where
  pub scanned_on : (at : ℕ) → Scan s end at → at < end → (get_or s at 0 ≡ 3 → ⊥) → Scan s end (at + 1 + body_length (get_or s at 0))
  scanned_on at g l n = go g.fuel g.enough g.same
    where
      go : (k : ℕ) → length s ≤ at + k → compound_from k s at end ≡ compound_from (length s) s 0 end → Scan s end (at + 1 + body_length (get_or s at 0))
      go zero b e = absurd (omega arith)
      go (suc k) b e = record { fuel = k; enough = omega arith; same = inv (scan-next s end k at l n) ∙ e }

  pub scanned_found : (at : ℕ) → Scan s end at → at < end → get_or s at 0 ≡ 3 → at ≡ compound_from (length s) s 0 end
  scanned_found at g l e = go g.fuel g.enough g.same
    where
      go : (k : ℕ) → length s ≤ at + k → compound_from k s at end ≡ compound_from (length s) s 0 end → at ≡ compound_from (length s) s 0 end
      go zero b q = absurd (omega arith)
      go (suc k) b q = inv (scan-found s end k at l e) ∙ q

  pub scanned_end : (at : ℕ) → Scan s end at → end ≤ at → end ≡ compound_from (length s) s 0 end
  scanned_end at g l = inv (scan-end s end g.fuel at l) ∙ g.same

  -- along records without a compound term
  pub scan-along : (rs : List Record) (rest : List ℕ) (at : ℕ) → PlainRecords rs → Scan s end at → drop at s ≡ encode rs ++ rest → at + length (encode rs) ≤ end →
      Scan s end (at + length (encode rs)) × (drop (at + length (encode rs)) s ≡ rest)
  scan-along [] rest at p g e l = let q : at + 0 ≡ at = omega arith in rw q (g, e)
  scan-along (r ∷ rs) rest at p g e l =
      let b = encoded s at r (encode rs ++ rest) (e ∙ append_assoc (encode_record r) (encode rs) rest) in
      let n : at + length (encode (r ∷ rs)) ≡ at + length (encode_record r) + length (encode rs) = omega (arith, length-append (encode_record r) (encode rs)) in
      let h : at + 1 + body_length (record_kind r) ≡ at + length (encode_record r) = omega (arith, record_length r) in
      let k : at + 1 + body_length (get_or s at 0) ≡ at + length (encode_record r) = ap (λ (x : ℕ). at + 1 + body_length x) b.kind ∙ h in
      let next = scanned_on at g (omega (arith, l, n, h)) (λ z. plain-kind r p.0 (inv b.kind ∙ z)) in
      rw n (scan-along rs rest (at + length (encode_record r)) p.1 (rw k at next) (rw h at b.later) (omega (arith, l, n)))

-- Each turn of the loop, from what its tests found: for `search`.

pub body-small : (kind : ℕ) → body_length kind ≤ 3
unfolding body_length
body-small kind = pick_small (leb kind 2) _ _ 3 (omega arith) (pick_small (leb kind 4) _ _ 3 (omega arith) (pick_small (eqb kind 5) _ _ 3 (omega arith) (pick_small (eqb kind 6) _ _ 3 (omega arith) (omega arith))))

pub turn_on : (s : List ℕ) (end at kind n at' : ℕ) → end ≤ length s → Scan s end at → at < end → kind ≡ get_or s at 0 → (kind ≡ 3 → ⊥) → n ≡ body_length kind → at' ≡ at + 1 + n → Scan s end at'
turn_on s end at kind n at' short g l k d b e =
    subst (Scan s end) (inv (e ∙ ap (λ (x : ℕ). at + 1 + x) (b ∙ ap body_length k))) (scanned_on s end short at g l (λ z. d (k ∙ z)))
