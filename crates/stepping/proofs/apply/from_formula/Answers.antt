use lib.Seq.{length-take-le}
use mathlib.Core.Path.{sym as inv}
use Rattle.stepping.proofs.Steps.{went-apart, went-unknown, went_too_far, never_over, went-room, went-goal, went-number, went}
use borrow.Author.Rules.{rules}
use Rattle.stepping.proofs.apply.from_formula.Goals as goal

pub apply_number-requires : goal.apply_number-requires
apply_number-requires c = record { goal_in = (c.requires.in_bounds.1, c.requires.in_bounds.2) }

pub slice_bounds-put_goal-end : goal.slice_bounds-put_goal-end
slice_bounds-put_goal-end c = inv (length-take-le _ _ (went-room c.requires.in_bounds.1 _ _ c.apply_number.ensures c.in-To.is c.requires.in_bounds.2))

pub put_goal-bytes-requires : goal.put_goal-bytes-requires
put_goal-bytes-requires c = let h = went-goal c.requires.in_bounds.1 _ _ c.apply_number.ensures c.in-To.is c.requires.in_bounds.2 in record { in_bounds = search rules; by_index = (4096, h.0, h.1) }

pub one_step-requires : goal.one_step-requires
one_step-requires c = (went-number c.requires.in_bounds.1, c.put_goal-bytes.ensures.within)

pub returns-in-Stuck : goal.returns-in-Stuck
returns-in-Stuck c = went-apart c.requires.in_bounds.1 _ _ c.apply_number.ensures _ _ c.in-Stuck.is _ c.no_step.ensures

pub returns-in-Unknown : goal.returns-in-Unknown
returns-in-Unknown c = went-unknown c.requires.in_bounds.1 _ _ c.apply_number.ensures c.in-Unknown.is _ c.no_step-in-Unknown.ensures

pub returns-in-Full : goal.returns-in-Full
returns-in-Full c = went_too_far c.requires.in_bounds.1 _ _ c.apply_number.ensures c.in-Full.is _ c.no_step-in-Full.ensures

pub returns-in-Over : goal.returns-in-Over
returns-in-Over c = never_over c.requires.in_bounds.1 _ _ c.apply_number.ensures c.in-Over.is

pub returns-in-To : goal.returns-in-To
returns-in-To c = went c.requires.in_bounds.1 _ _ c.apply_number.ensures c.in-To.is _ (λ h. c.put_goal-bytes.ensures.written 4096 h) c.one_step.ensures
