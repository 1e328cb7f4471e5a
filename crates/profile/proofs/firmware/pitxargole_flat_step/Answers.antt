-- `profile::firmware::pitxargole_flat_step` meets its contract. Assumes nothing.
use Rattle.std.proofs.Common.{arith}
use Rattle.flatly.specs.Ways.{flat-step-narrow}
use Rattle.profile.proofs.firmware.pitxargole_flat_step.Goals as goal

pub applied_number-requires : goal.applied_number-requires
applied_number-requires c = rw c.flat_step.ensures.answer (flat-step-narrow _ _ _ (λ i. omega (arith, c.type_inv.book i)))
