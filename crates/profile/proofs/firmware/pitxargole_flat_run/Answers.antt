-- `profile::firmware::pitxargole_flat_run` meets its contract. Assumes nothing.
use Rattle.std.proofs.Common.{arith}
use Rattle.flatly.specs.Ways.{flat-run-narrow}
use Rattle.profile.proofs.firmware.pitxargole_flat_run.Goals as goal

pub number-requires : goal.number-requires
number-requires c = rw c.flat_run.ensures.said (flat-run-narrow _ _ _ _ _ (λ i. omega (arith, c.type_inv.book i)) (λ i. omega (arith, c.type_inv.query i)))
