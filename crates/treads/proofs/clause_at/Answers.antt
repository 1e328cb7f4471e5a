use native.Mathlib.Omega.{arith}
use Rattle.attempts.proofs.Seeking.{placed_so, clause-is}
use Rattle.figures.specs.FigureLaws.{slot_so, figured-on}
use Rattle.treads.proofs.clause_at.Goals as goal

pub slice_bounds-figure_at-count : goal.slice_bounds-figure_at-count
slice_bounds-figure_at-count c = let p = placed_so c.requires.0.1 c.args.i c.entry-start.result c.entry-head.result c.entry-end.result c.requires.0.2 c.entry-start.ensures.0 c.entry-head.ensures.0 c.entry-end.ensures.0 c.entry-bodies.result c.entry-bodies.ensures.0 in omega (arith, p.begins, p.ends)

pub slice_bounds-figure_at-start : goal.slice_bounds-figure_at-start
slice_bounds-figure_at-start c = let p = placed_so c.requires.0.1 c.args.i c.entry-start.result c.entry-head.result c.entry-end.result c.requires.0.2 c.entry-start.ensures.0 c.entry-head.ensures.0 c.entry-end.ensures.0 c.entry-bodies.result c.entry-bodies.ensures.0 in omega (arith, p.begins, p.ends)

pub slice_bounds-figure_at-end : goal.slice_bounds-figure_at-end
slice_bounds-figure_at-end c = let p = placed_so c.requires.0.1 c.args.i c.entry-start.result c.entry-head.result c.entry-end.result c.requires.0.2 c.entry-start.ensures.0 c.entry-head.ensures.0 c.entry-end.ensures.0 c.entry-bodies.result c.entry-bodies.ensures.0 in omega (arith, p.within)

pub overflow_sub-head : goal.overflow_sub-head
overflow_sub-head c = let p = placed_so c.requires.0.1 c.args.i c.entry-start.result c.entry-head.result c.entry-end.result c.requires.0.2 c.entry-start.ensures.0 c.entry-head.ensures.0 c.entry-end.ensures.0 c.entry-bodies.result c.entry-bodies.ensures.0 in omega (arith, p.begins)

pub figure_at-figure-requires : goal.figure_at-figure-requires
figure_at-figure-requires c = let p = placed_so c.requires.0.1 c.args.i c.entry-start.result c.entry-head.result c.entry-end.result c.requires.0.2 c.entry-start.ensures.0 c.entry-head.ensures.0 c.entry-end.ensures.0 c.entry-bodies.result c.entry-bodies.ensures.0 in (c.requires.2, omega (arith, c.requires.0.2, c.requires.0.1.held.few), (_, p.clause), slot_so c.args.book.now c.args.shelf.now c.args.i c.entry-start.result c.entry-head.result c.entry-end.result c.entry-bodies.result c.entry-start.ensures.0 c.entry-head.ensures.0 c.entry-end.ensures.0 c.entry-bodies.ensures.0 c.args.figures.now c.requires.1)

pub returns : goal.returns
returns c = record { placed = λ P o l. (placed_so o c.args.i c.entry-start.result c.entry-head.result c.entry-end.result l c.entry-start.ensures.0 c.entry-head.ensures.0 c.entry-end.ensures.0 c.entry-bodies.result c.entry-bodies.ensures.0, clause-is o c.args.i c.entry-start.result c.entry-head.result c.entry-end.result l c.entry-start.ensures.0 c.entry-head.ensures.0 c.entry-end.ensures.0); figure = c.figure_at-figure.ensures.figure; figured = figured-on c.args.book.now c.args.shelf.now c.args.i c.entry-start.result c.entry-head.result c.entry-end.result c.entry-bodies.result c.entry-start.ensures.0 c.entry-head.ensures.0 c.entry-end.ensures.0 c.entry-bodies.ensures.0 c.args.figures.now _ _ c.requires.1 c.figure_at-figure.ensures }
