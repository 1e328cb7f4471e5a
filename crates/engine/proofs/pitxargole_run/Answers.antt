use Rattle.std.proofs.Common.{arith}
use Rattle.outcomes.proofs.Figures.{run-narrow}
use Rattle.engine.proofs.pitxargole_run.Goals as goal

pub number-requires : goal.number-requires
number-requires c = rw c.run.ensures.said (run-narrow _ _ _ _ _ (λ i. omega (arith, c.type_inv.query i)))
