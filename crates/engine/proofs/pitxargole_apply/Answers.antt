use Rattle.outcomes.proofs.CallFigures.{apply-narrow}
use Rattle.engine.proofs.pitxargole_apply.Goals as goal

pub applied_number-requires : goal.applied_number-requires
applied_number-requires c = rw c.apply.ensures.answer (apply-narrow _ _ _ _)
