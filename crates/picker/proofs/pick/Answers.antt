use mathlib.Core.Path.{sym as inv, ap, ◌∙◌}
use Rattle.outcomes.specs.Outcome.{pick_refused}
use Rattle.outcomes.specs.Refusals.{not-refused}
use Rattle.outcomes.proofs.Calls.{pick-refused, pick-taken}
use Rattle.picker.proofs.pick.Goals as goal

pub from_good-requires : goal.from_good-requires
from_good-requires c = not-refused _ _ _ c.in-Ok.ensures

pub returns-in-Ok : goal.returns-in-Ok
returns-in-Ok c = c.from_good.ensures ∙ inv (pick-taken _ _ c.in-Ok.ensures)

pub returns-in-Err : goal.returns-in-Err
returns-in-Err c = c.refused.ensures ∙ ap pick_refused c.in-Err.ensures.0 ∙ inv (pick-refused _ _ c.in-Err.ensures.1)
