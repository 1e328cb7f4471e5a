use mathlib.Core.Path.{sym as inv, ap, ◌∙◌}
use Rattle.outcomes.specs.Outcome.{step_refused}
use Rattle.outcomes.specs.Refusals.{not-refused}
use Rattle.outcomes.specs.Stepping.{single-refused, single-kept, single-taken, single-written}
use Rattle.stepping.proofs.apply.apply.Goals as goal

pub from_good-requires : goal.from_good-requires
from_good-requires c = not-refused _ _ _ c.in-Ok.ensures

pub returns-in-Ok : goal.returns-in-Ok
returns-in-Ok c = let z = c.in-Ok.ensures in let s = c.from_good.ensures in record { answer = s.answer ∙ inv (single-taken _ _ _ z _); area = s.area ∙ inv (single-written _ _ _ z _) }

pub returns-in-Err : goal.returns-in-Err
returns-in-Err c = let a = c.in-Err.ensures in record { answer = c.refused.ensures ∙ ap step_refused a.0 ∙ inv (single-refused _ _ _ a.1 _); area = inv (single-kept _ _ _ a.1 _) }
