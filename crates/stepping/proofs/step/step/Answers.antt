use mathlib.Core.Path.{sym as inv, ◌∙◌}
use Rattle.outcomes.proofs.Calls.{step-of-short, answers-picked, answers_unpicked}
use Rattle.stepping.proofs.step.step.Goals as goal

pub returns-then-area-lt16387 : goal.returns-then-area-lt16387
returns-then-area-lt16387 c = let s = step-of-short _ _ _ c.if-area-lt16387.true in record { answer = c.not_stepped.ensures ∙ inv s.0; area = inv s.1 }

pub returns-then-picked-eq25 : goal.returns-then-picked-eq25
returns-then-picked-eq25 c = record { answer = (answers-picked _ _ _ c.if-area-lt16387.false c.pick-picked.ensures c.if-picked-eq25.true c.apply.ensures.answer c.apply.ensures.area).0; area = (answers-picked _ _ _ c.if-area-lt16387.false c.pick-picked.ensures c.if-picked-eq25.true c.apply.ensures.answer c.apply.ensures.area).1 }

pub returns : goal.returns
returns c = record { answer = (answers_unpicked _ _ _ c.if-area-lt16387.false c.pick-picked.ensures c.if-picked-eq25.false c.not_stepped-2.ensures).0; area = (answers_unpicked _ _ _ c.if-area-lt16387.false c.pick-picked.ensures c.if-picked-eq25.false c.not_stepped-2.ensures).1 }
