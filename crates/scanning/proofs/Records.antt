-- What one record adds to the arities before it.
use Rattle.std.specs.Prelude.{Some}
use Prim.Native.Nat.{ℕ, suc, ◌+◌, ◌≤◌, ◌<◌}
use mathlib.Core.Path.{◌≡◌, refl, sym as inv, ap, ◌∙◌, subst}
use mathlib.Core.Bool.{Bool, true, false, not, true≢false, ◌||◌}
use mathlib.Core.List.{List, ◌++◌}
use native.Mathlib.Omega.{arith}
use borrow.Author.Tests.{leb-true, not-true, not-false}
use lib.ListN.{length, get_or, set}
use lib.Dec.{eqb}
use Rattle.terms.specs.When.{◌⇒◌∣◌}
use Rattle.format.specs.declared.Record.{Record}
use Rattle.format.specs.declared.Record.TheVariants.{Variable, Constant, Compound, Formula, Clause, Goal, End}
use Rattle.format.specs.Format.{record_kind}
use Rattle.format.specs.Reading.{in_range}
use Rattle.format.specs.Arities.{Use, record_uses, Memory, meet, meets, keeps}
use Rattle.format.specs.ArityLaws.{recalled-set}
use Rattle.readouts.specs.Clash.{arities_from}
use Rattle.scanning.specs.Remembers.{Remembers}

-- One record

module _ (table : List ℕ) (p n : ℕ) (t : Bool) (e : t ≡ (eqb (get_or table p 0) 0 || eqb (get_or table p 0) (n + 1))) where
  pub use_kept : length table ≡ 65536 → p < 65536 → not t ≡ false → Remembers table (set table p (n + 1)) (Formula p n) true
  unfolding keeps
  use_kept q h y = record { answer = inv (not-false t y) ∙ e; remembered = λ z. recalled-set table p n (omega arith) }

  pub use-other : not t ≡ true → Remembers table table (Formula p n) false
  unfolding keeps
  use-other y = record { answer = inv (not-true t y) ∙ e; remembered = λ z. absurd (true≢false (inv z)) }

pub remembers_as : (table table' : List ℕ) (x y : Record) (r : Bool) → x ≡ y → Remembers table table' y r → Remembers table table' x r
remembers_as table table' x y r e h = subst (λ (z : Record). Remembers table table' z r) (inv e) h

-- a record that is no formula
pub plain : (table : List ℕ) (r : Record) → ((p n : ℕ) → r ≡ Formula p n → ⊥) → Remembers table table r true
unfolding keeps
plain table (Variable v) h = record { answer = refl; remembered = λ z. refl }
plain table (Constant c) h = record { answer = refl; remembered = λ z. refl }
plain table (Compound f n) h = record { answer = refl; remembered = λ z. refl }
plain table (Formula p n) h = absurd (h p n refl)
plain table (Clause n) h = record { answer = refl; remembered = λ z. refl }
plain table (Goal n) h = record { answer = refl; remembered = λ z. refl }
plain table End h = record { answer = refl; remembered = λ z. refl }

pub formula-low : (item : Record) (p n : ℕ) → item ≡ Formula p n → in_range item ≡ true → n ≤ 8
unfolding in_range
formula-low item p n e h = leb-true n 8 (rw e at h)

pub formula_as : (table table' : List ℕ) (item : Record) (p q n : ℕ) (r : Bool) → item ≡ Formula p n → q ≡ p → Remembers table table' (Formula q n) r → Remembers table table' item r
formula_as table table' item p q n r e f h = remembers_as table table' item (Formula q n) r (e ∙ ap (λ (x : ℕ). Formula x n) (inv f)) h

-- The arities from a record on

pub record_step : (m : Memory) (k : ℕ) (r : Record) (us : List Use) → arities_from m k (record_uses r ++ us) ≡ (keeps m r ⇒ arities_from (meets m r) (eqb (record_kind r) 4 ⇒ k + 1 ∣ k) us ∣ Some k)
unfolding keeps
record_step m k (Variable v) us = refl
record_step m k (Constant c) us = refl
record_step m k (Compound f n) us = refl
record_step m k (Formula p n) us = ap (λ (i : ℕ). keeps m (Formula p n) ⇒ arities_from (meet m p n) i us ∣ Some k) (let z : suc k ≡ k + 1 = omega arith in z)
record_step m k (Clause n) us = refl
record_step m k (Goal n) us = refl
record_step m k End us = refl
