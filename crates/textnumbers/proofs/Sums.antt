-- The numbers, as they are put together.
use Prim.Native.Nat.{ℕ, ◌+◌, ◌*◌, ◌^◌}
use mathlib.Core.Path.{◌≡◌}
use native.Mathlib.Omega.{arith}
use borrow.Author.Tests.{eq-eqb, ne_eqb}
use Rattle.printouts.specs.declared.Printout.{Printout}
use Rattle.readouts.specs.declared.ReadText.{ReadText}
use Rattle.textnumbers.specs.Numbers.{text_number, read_number}

module _ (p : Printout) (n : ℕ) where
  pub of-printed : p.code ≡ 0 → n ≡ p.code + 256 * p.bytes + 2 ^ 32 * 0 → n ≡ text_number p
  of-printed z e = simp (eq-eqb p.code 0 z) (omega (arith, e))

  pub of-refused : (p.code ≡ 0 → ⊥) → n ≡ p.code + 256 * p.place + 2 ^ 32 * 0 → n ≡ text_number p
  of-refused z e = simp (ne_eqb p.code 0 z) (omega (arith, e))

module _ (r : ReadText) (n : ℕ) where
  pub of-read : r.code ≡ 0 → n ≡ r.code + 256 * r.book + 2 ^ 32 * r.names → n ≡ read_number r
  of-read z e = simp (eq-eqb r.code 0 z) (omega (arith, e))

  pub of_unread : (r.code ≡ 0 → ⊥) → n ≡ r.code + 256 * r.place + 2 ^ 32 * r.names → n ≡ read_number r
  of_unread z e = simp (ne_eqb r.code 0 z) (omega (arith, e))
