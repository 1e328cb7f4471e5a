use Rattle.searching.proofs.Follows.{follow_stuck, follow_unknown, follow_full_spent, follow_full, follow_over_spent, follow_over, follow_spent, follow_moving, follow_on}
use Rattle.std.specs.Prelude.{Err, IsErrAnd}
use Rattle.std.specs.declared.result.Result.{Result}
use Rattle.std.proofs.lemmas.Result.{err_from_is_err_and}
use Rattle.states.specs.declared.Place.{Place}
use Rattle.states.specs.declared.Ended.{Ended}
use mathlib.Core.Path.{◌≡◌, ap, ◌∙◌}
use borrow.Author.Rules.{rules}
use Rattle.searching.proofs.following.follow.Goals as goal

-- what the `?` of a step that is not within the budget answers
refused : {e d : Ended} (r : Result Place Ended) → IsErrAnd r (λ x. x ≡ e) → e ≡ d → r ≡ Err d
refused r p q = let x = err_from_is_err_and r p in x.1 ∙ ap Err (x.2 ∙ q)

pub returns-in-Stuck : goal.returns-in-Stuck
returns-in-Stuck c = follow_stuck _ _ _ _ _ _ _ _ c.in-Stuck.is _ (ap Err c.close_stuck.ensures)

pub returns-in-Unknown : goal.returns-in-Unknown
returns-in-Unknown c = follow_unknown _ _ _ _ _ _ c.in-Unknown.is _ (ap Err c.close.ensures)

pub returns-in_err-spend-in-Full : goal.returns-in_err-spend-in-Full
returns-in_err-spend-in-Full c = follow_full_spent _ _ _ _ _ _ c.in-Full.is c.in_err-spend-in-Full.ensures.0 _ (refused c.from_residual.result c.from_residual.ensures.1 c.in_err-spend-in-Full.ensures.1)

pub returns-in_ok-spend-in-Full : goal.returns-in_ok-spend-in-Full
returns-in_ok-spend-in-Full c = follow_full _ _ _ _ _ _ c.in-Full.is c.in_ok-spend-in-Full.ensures _ (ap Err c.close-in-Full.ensures)

pub returns-in_err-spend-in-Over : goal.returns-in_err-spend-in-Over
returns-in_err-spend-in-Over c = follow_over_spent _ _ _ _ _ _ c.in-Over.is c.in_err-spend-in-Over.ensures.0 _ (refused c.from_residual-in_err-spend-in-Over.result c.from_residual-in_err-spend-in-Over.ensures.1 c.in_err-spend-in-Over.ensures.1)

pub returns-in_ok-spend-in-Over : goal.returns-in_ok-spend-in-Over
returns-in_ok-spend-in-Over c = follow_over _ _ _ _ _ _ c.in-Over.is c.in_ok-spend-in-Over.ensures _ (ap Err c.close-in-Over.ensures)

pub returns-in_err-spend-in-To : goal.returns-in_err-spend-in-To
returns-in_err-spend-in-To c = follow_spent _ _ _ _ _ _ _ _ _ _ c.in-To.is c.in_err-spend-in-To.ensures.0 _ (refused c.from_residual-in_err-spend-in-To.result c.from_residual-in_err-spend-in-To.ensures.1 c.in_err-spend-in-To.ensures.1)

pub move_on-requires : goal.move_on-requires
move_on-requires c = follow_moving _ _ _ _ _ _ _ _ _ _ c.in-To.is c.in_ok-spend-in-To.ensures c.requires.room c.requires (search rules)

pub returns-in_ok-spend-in-To : goal.returns-in_ok-spend-in-To
returns-in_ok-spend-in-To c = follow_on _ _ _ _ _ _ _ _ _ _ c.in-To.is c.in_ok-spend-in-To.ensures c.requires.room _ _ _ c.move_on.ensures
