-- The longest good query has 16,386 bytes: a goal of 4,096 nodes has more nodes than formulas, so some compound term or formula has arguments, and the last of
-- them ends in a variable or a constant, whose record has three bytes.
use Prim.Native.Nat.{ℕ, zero, suc, ◌+◌, ◌*◌, ◌≤◌, ◌<◌}
use native.Mathlib.Omega.{arith}
use native.Mathlib.Decide.{dec_lt}
use mathlib.Core.Path.{◌≡◌}
use mathlib.Core.List.{[], ◌∷◌, ◌++◌}
use lib.ListN.{length, length-append}
use Rattle.terms.specs.Node.{Expr}
use Rattle.search.specs.Next as Next
use Rattle.search.specs.Room.{nodes}
use Rattle.words.specs.Flat.{flat, flat-size}
use Rattle.format.specs.Format.{encode_record, encode, node_record, node_records, encode_goal, Terms, terms_none, terms_var, terms_constant, terms_compound, IsFormula, formula, AreFormulas, GoodGoal}

abbrev bytes : Expr → ℕ
bytes e = length (encode (node_records e))

bytes-append : (a b : Expr) → bytes (a ++ b) ≡ bytes a + bytes b
bytes-append [] b = omega arith
bytes-append (x ∷ a) b =
    let r = encode_record (node_record x) in
    omega (arith, length-append r (encode (node_records (a ++ b))), length-append r (encode (node_records a)), bytes-append a b)

-- each term has a record of three bytes at least once
terms-bytes : {n : ℕ} {e : Expr} → Terms n e → bytes e + n ≤ 4 * length e
terms-bytes terms_none = omega arith
terms-bytes (terms_var w t) = let h = terms-bytes t in omega arith
terms-bytes (terms_constant w t) = let h = terms-bytes t in omega arith
terms-bytes (terms_compound w p q t) = let h = terms-bytes t in omega arith

-- a formula has arguments, or is one node
record Counted (m : ℕ) (e : Expr) : Type 0 where
  most : bytes e ≤ 4 * length e
  less : m < length e → bytes e < 4 * length e

formula-counted : {f : Expr} → IsFormula f → Counted 1 f
formula-counted (formula {a = zero} w q terms_none) = record { most = omega arith; less = λ (h : 1 < 1). absurd (omega arith) }
formula-counted (formula {a = suc a} w q t) = let h = terms-bytes t in record { most = omega arith; less = λ z. omega arith }

formulas-counted : (g : Next.Goal) → AreFormulas g → Counted (length g) (flat g)
formulas-counted [] p = record { most = omega arith; less = λ (h : 0 < 0). absurd (omega arith) }
formulas-counted (f ∷ g) p =
    let c = formula-counted p.0 in
    let d = formulas-counted g p.1 in
    let b = bytes-append f (flat g) in
    let l = length-append f (flat g) in
    let m = c.most in
    let n = d.most in
    record {
      most = omega arith;
      less = λ h.
          elim (dec_lt 1 (length f)) [
            | yes q ↦ omega (arith, c.less q)
            | no q ↦ omega (arith, d.less (omega arith))
          ];
    }

-- "a query over 16,387 bytes is code 15": one of 16,387 bytes is read, and is never good
pub good-short : (g : Next.Goal) → GoodGoal g → length (encode_goal g) ≤ 16386
good-short g good =
    let c = formulas-counted g good.formulas in
    let m = c.most in
    let l = flat-size g in
    let s = good.fitting.size in
    let f = good.few in
    elim (dec_lt (nodes g) 4096) [
      | yes q ↦ omega arith
      | no q ↦ omega (arith, c.less (omega arith))
    ]
