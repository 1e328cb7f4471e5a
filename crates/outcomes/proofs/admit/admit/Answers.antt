use Prim.Native.Nat.{ℕ, ◌≤◌}
use native.Mathlib.Omega.{arith}
use mathlib.Core.Path.{◌≡◌, sym as inv, ap, ◌∙◌}
use mathlib.Core.List.{List}
use Rattle.format.specs.declared.Check.{Check}
use Rattle.format.specs.Reading.{query_verdict}
use Rattle.areas.proofs.Places.{both-place}
use Rattle.outcomes.specs.declared.admit.Admitted.{Admitted}
use Rattle.outcomes.specs.Outcome.{refusal}
use Rattle.outcomes.specs.Refusals.{area-short, both_decide}
use Rattle.outcomes.proofs.admit.admit.Goals as goal

abbrev told : Check → Admitted
told r = record { code = r.code; place = r.place }

-- the query's check decides, where the area is long enough
both : (book query : List ℕ) (room : ℕ) {r : Check} → 16387 ≤ room → r ≡ query_verdict book query → told r ≡ refusal book query room
both book query room long e = ap told e ∙ inv (both_decide book query room long)

small : (book query : List ℕ) {r : Check} → r ≡ query_verdict book query → r.place ≤ 32768
small book query e = rw e (both-place book query)

refuses : (book query : List ℕ) (room : ℕ) {a : Admitted} → a ≡ refusal book query room → (a.code ≡ 0 → ⊥) → (a ≡ refusal book query room) × ((refusal book query room).code ≡ 0 → ⊥)
refuses book query room e n = (e, λ z. n (ap (λ (r : Admitted). r.code) e ∙ z))

pub returns-then-area-lt16387 : goal.returns-then-area-lt16387
returns-then-area-lt16387 c = refuses _ _ _ (inv (area-short _ _ _ c.if-area-lt16387.true)) (λ z. omega (arith, z))

pub overflow_cast-result : goal.overflow_cast-result
overflow_cast-result c = record { fits = omega (arith, small _ _ c.check_query-both.ensures) }

pub returns-then-both-ne0 : goal.returns-then-both-ne0
returns-then-both-ne0 c = refuses _ _ _ (both _ _ c.args.area (omega arith) c.check_query-both.ensures) c.if-both-ne0.true

pub returns : goal.returns
returns c = inv (ap (λ (a : Admitted). a.code) (both _ _ c.args.area (omega arith) c.check_query-both.ensures)) ∙ c.if-both-ne0.false
