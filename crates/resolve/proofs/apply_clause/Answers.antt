use native.Mathlib.Omega.{arith}
use mathlib.Core.Path.{refl}
use Rattle.resolve.proofs.Advances.{goal_part, standing, matched-back, matched-part, staged}
use borrow.Author.Rules.{rules}
use Rattle.resolve.proofs.apply_clause.Goals as goal

pub slice_bounds-extent-end : goal.slice_bounds-extent-end
slice_bounds-extent-end c = c.requires.book_on.5.within

pub extent-m-requires : goal.extent-m-requires
extent-m-requires c = (_, _, _, goal_part c.requires.book_on.5)

pub entry-s-requires : goal.entry-s-requires
entry-s-requires c = (search rules, omega (arith, c.requires.book_on.6, c.requires.book_on.4.held.few), omega (arith, c.requires.book_on.6, c.requires.book_on.4.long))

pub entry-e-requires : goal.entry-e-requires
entry-e-requires c = (search rules, omega (arith, c.requires.book_on.6, c.requires.book_on.4.held.few), omega (arith, c.requires.book_on.6, c.requires.book_on.4.long))

pub overflow_add-i : goal.overflow_add-i
overflow_add-i c = record { fits = omega (arith, c.requires.book_on.6, c.requires.book_on.4.held.few) }

pub entry-t-requires : goal.entry-t-requires
entry-t-requires c = (search rules, omega (arith, c.requires.book_on.6, c.requires.book_on.4.held.few), omega (arith, c.requires.book_on.6, c.requires.book_on.4.long))

pub entry-b-requires : goal.entry-b-requires
entry-b-requires c = (search rules, omega (arith, c.requires.book_on.6, c.requires.book_on.4.held.few), omega (arith, c.requires.book_on.6, c.requires.book_on.4.long))

pub overflow_add-n : goal.overflow_add-n
overflow_add-n c = record { fits = omega (arith, c.entry-b.ensures.1, c.requires.book_on.5.goal.few) }

pub overflow_sub-n : goal.overflow_sub-n
overflow_sub-n c = omega (arith, c.requires.book_on.5.goal.count)

pub overflow_sub-cut : goal.overflow_sub-cut
overflow_sub-cut c = let d = standing c.requires.book_on.4 c.args.i _ _ _ _ c.requires.book_on.6 c.entry-s.ensures.0 c.entry-e.ensures.0 c.entry-t.ensures.0 c.entry-b.ensures.0 in omega (arith, d.begins)

pub slice_bounds-apply-count : goal.slice_bounds-apply-count
slice_bounds-apply-count c = let d = standing c.requires.book_on.4 c.args.i _ _ _ _ c.requires.book_on.6 c.entry-s.ensures.0 c.entry-e.ensures.0 c.entry-t.ensures.0 c.entry-b.ensures.0 in omega (arith, d.begins, d.ends)

pub slice_bounds-apply-start : goal.slice_bounds-apply-start
slice_bounds-apply-start c = let d = standing c.requires.book_on.4 c.args.i _ _ _ _ c.requires.book_on.6 c.entry-s.ensures.0 c.entry-e.ensures.0 c.entry-t.ensures.0 c.entry-b.ensures.0 in omega (arith, d.begins, d.ends)

pub slice_bounds-apply-end : goal.slice_bounds-apply-end
slice_bounds-apply-end c = let d = standing c.requires.book_on.4 c.args.i _ _ _ _ c.requires.book_on.6 c.entry-s.ensures.0 c.entry-e.ensures.0 c.entry-t.ensures.0 c.entry-b.ensures.0 in omega (arith, d.within)

pub apply-r-requires : goal.apply-r-requires
apply-r-requires c = let p = c.requires.book_on.5 in let d = c.extent-m.ensures _ _ _ (goal_part p) in ((_, _, _, _, staged c.requires.book_on.4 c.args.i _ _ _ _ c.requires.book_on.6 c.entry-s.ensures.0 c.entry-e.ensures.0 c.entry-t.ensures.0 c.entry-b.ensures.0 _ _ _ _ _ _ _ p d _ refl), matched-part c.requires.book_on.4 c.args.i _ _ _ _ c.requires.book_on.6 c.entry-s.ensures.0 c.entry-e.ensures.0 c.entry-t.ensures.0 c.entry-b.ensures.0 c.args.row.now c.extent-m.result (matched-back c.args.row.now c.extent-m.result c.requires.book_on.1 d c.requires.book_on.7))

pub returns : goal.returns
returns c = λ P f g a k p l. let d = c.extent-m.ensures f g _ (goal_part p) in c.answer.ensures P f g a _ (c.apply-r.ensures f g a _ (staged k c.args.i _ _ _ _ l c.entry-s.ensures.0 c.entry-e.ensures.0 c.entry-t.ensures.0 c.entry-b.ensures.0 _ _ _ _ f g a p d _ refl))
