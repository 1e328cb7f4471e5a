use Rattle.std.proofs.Common.{arith}
use Rattle.outcomes.proofs.CallFigures.{pick-narrow}
use Rattle.engine.proofs.pitxargole_pick.Goals as goal

pub picked_number-requires : goal.picked_number-requires
picked_number-requires c = rw c.pick.ensures (pick-narrow _ _ (λ i. omega (arith, c.type_inv.book i)) (λ i. omega (arith, c.type_inv.query i)))
