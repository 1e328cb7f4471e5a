-- The first clash, and how many uses stand before it (questions, Outcome: `kept`).
use Rattle.std.specs.Prelude.{Some, None}
use Prim.Native.Nat.{ℕ, suc, ◌+◌, ◌<◌}
use mathlib.Core.Path.{◌≡◌, refl, sym as inv, ap}
use mathlib.Core.List.{List, [], ◌∷◌}
use native.Mathlib.Omega.{arith}
use lib.ListN.{length}
use Rattle.terms.specs.Cases.{cases}
use Rattle.format.specs.declared.Record.TheVariants.{Formula}
use Rattle.format.specs.Arities.{Use, Memory, meet, keeps}
use Rattle.readouts.specs.Clash.{arities_from}
use Rattle.questions.specs.Outcome.{kept}
use Rattle.scanning.proofs.Meetings.{some-none}

-- there is none
pub none-kept : (m : Memory) (k : ℕ) (us : List Use) → arities_from m k us ≡ None → kept m us ≡ length us
none-kept m k [] e = refl
none-kept m k (u ∷ us) e =
    cases (keeps m (Formula u.number u.arity))
    (λ t. rw t (ap suc (none-kept (meet m u.number u.arity) (suc k) us (rw t at e))))
    (λ t. absurd (some-none k (rw t at e)))

-- so many stand before it
pub some-kept : (m : Memory) (k : ℕ) (us : List Use) (j : ℕ) → arities_from m k us ≡ Some j → (j ≡ k + kept m us) × (kept m us < length us)
some-kept m k [] j e = absurd (some-none j (inv e))
some-kept m k (u ∷ us) j e =
    cases (keeps m (Formula u.number u.arity))
    (λ t. let i = some-kept (meet m u.number u.arity) (suc k) us j (rw t at e) in rw t (omega (arith, i.0), omega (arith, i.1)))
    (λ t. let z : Some k ≡ Some j = (rw t at e) in let y : k ≡ j = cc in rw t (omega (arith, y), omega arith))
