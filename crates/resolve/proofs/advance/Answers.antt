use mathlib.Core.Path.{◌∙◌}
use Rattle.resolve.proofs.Advances.{goal_part, matched-row, by_clause, by-stuck, by-unknown, moves-stuck, moves-unknown, moves}
use Rattle.resolve.proofs.advance.Goals as goal

pub slice_bounds-choose-end : goal.slice_bounds-choose-end
slice_bounds-choose-end c = c.requires.row_in.1.3.within

pub choose-requires : goal.choose-requires
choose-requires c = (c.requires.row_in.0, (_, _, _, goal_part c.requires.row_in.1.3))

pub apply_clause-requires : goal.apply_clause-requires
apply_clause-requires c = let k = c.requires.row_in.0.1 in let p = c.requires.row_in.1.3 in let x = by_clause (c.choose.ensures _ _ _ _ k (goal_part p)) _ c.in-Clause.is in record { book_on = (c.requires.row_in.0.0, c.requires.row_in.1.0, c.requires.row_in.1.1, c.requires.row_in.1.2, k, p, x.1, matched-row p x.2) }

pub returns-in-Clause : goal.returns-in-Clause
returns-in-Clause c = λ P f g a k p. let x = by_clause (c.choose.ensures P f g _ k (goal_part p)) _ c.in-Clause.is in moves k f g p.goal _ x.0 x.1 a p.answer.formulas _ c.apply_clause.result (c.apply_clause.ensures P f g a k p x.1)

pub returns-in-Stuck : goal.returns-in-Stuck
returns-in-Stuck c = λ P f g a k p. moves-stuck k f g p.goal _ _ (by-stuck (c.choose.ensures P f g _ k (goal_part p)) _ _ c.in-Stuck.is)

pub returns-in-Unknown : goal.returns-in-Unknown
returns-in-Unknown c = λ P f g a k p. moves-unknown k f g p.goal (by-unknown (c.choose.ensures P f g _ k (goal_part p)) c.in-Unknown.is)
