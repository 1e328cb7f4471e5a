use Rattle.std.proofs.Common.{arith}
use Rattle.try_entries.proofs.Items.{too_short, goal-too_long, answer-too_long, all-within}
use Rattle.try_entries.proofs.lent.entry.Goals as goal

pub returns-then-item-lt20 : goal.returns-then-item-lt20
returns-then-item-lt20 g c = too_short _ _ _ c.if-item-lt20.true

pub returns-then-area-goal : goal.returns-then-area-goal
returns-then-area-goal g c = goal-too_long _ _ _ c.if-item-lt20.false (omega (arith, c.at-goal.ensures, c.if-area-goal.true))

pub returns-then-answer-said : goal.returns-then-answer-said
returns-then-answer-said g c = answer-too_long _ _ _ c.if-item-lt20.false (omega (arith, c.at-goal.ensures, c.if-area-goal.false)) (omega (arith, c.at-said.ensures, c.if-answer-said.true))

pub returns : goal.returns
returns g c = all-within _ _ _ c.if-item-lt20.false (omega (arith, c.at-goal.ensures, c.if-area-goal.false)) (omega (arith, c.at-said.ensures, c.if-answer-said.false)) _ c.with_areas.ensures
