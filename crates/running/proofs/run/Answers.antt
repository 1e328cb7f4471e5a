use Rattle.outcomes.specs.Running.{answer-refused, area-refused, answer-area-refused, answer-taken, area-taken, answer-area-taken}
use Rattle.outcomes.specs.Refusals.{not-refused}
use Rattle.outcomes.specs.Outcome.{refusal, refused}
use mathlib.Core.Path.{sym as inv, ap, ◌∙◌}
use Rattle.running.proofs.run.Goals as goal

-- the room that is asked for is the shorter area's
pub from_good-requires : goal.from_good-requires
from_good-requires c = not-refused _ _ _ (rw c.shorter.ensures at c.in-Ok.ensures)

pub returns-in-Ok : goal.returns-in-Ok
returns-in-Ok c = let z = rw c.shorter.ensures at c.in-Ok.ensures in
    let s = c.from_good.ensures in record {
      said = s.answer ∙ inv (answer-taken _ _ _ _ _ z);
      area = s.area ∙ inv (area-taken _ _ _ _ _ z);
      answer = s.answer_area ∙ inv (answer-area-taken _ _ _ _ _ z);
    }

pub returns-in-Err : goal.returns-in-Err
returns-in-Err c = let m = c.shorter.ensures in
    let n = rw m at c.in-Err.ensures.1 in record {
      said = c.refused.ensures ∙ ap refused (c.in-Err.ensures.0 ∙ ap (refusal _ _) m) ∙ inv (answer-refused _ _ _ _ _ n);
      area = inv (area-refused _ _ _ _ _ n);
      answer = inv (answer-area-refused _ _ _ _ _ n);
    }
