use native.Mathlib.Omega.{arith}
use Rattle.attempts.proofs.FactLaws.{head-begins, head-ends, given-here, lent-room}
use Rattle.attempts.proofs.FactLaws.{not-true}
use Rattle.attempts.proofs.facts.is_given.Goals as goal

pub returns-then-entry-gt0 : goal.returns-then-entry-gt0
returns-then-entry-gt0 c = λ e. not-true e

pub slice_bounds-stands-count-2 : goal.slice_bounds-stands-count-2
slice_bounds-stands-count-2 c = omega (arith, head-begins c.requires.book_on.1 c.args.i c.entry-b.result c.entry-e.result c.requires.book_on.2 c.entry-b.ensures.0 c.entry-e.ensures.0)

pub slice_bounds-stands-start-2 : goal.slice_bounds-stands-start-2
slice_bounds-stands-start-2 c = omega (arith, head-begins c.requires.book_on.1 c.args.i c.entry-b.result c.entry-e.result c.requires.book_on.2 c.entry-b.ensures.0 c.entry-e.ensures.0)

pub slice_bounds-stands-end-2 : goal.slice_bounds-stands-end-2
slice_bounds-stands-end-2 c = head-ends c.requires.book_on.1 c.args.i c.entry-b.result c.entry-e.result c.requires.book_on.2 c.entry-b.ensures.0 c.entry-e.ensures.0

pub stands-requires : goal.stands-requires
stands-requires c = lent-room c.requires.by_index.5

pub returns : goal.returns
returns c = λ e P cells levels f g a o l h. given-here o c.args.i c.entry-b.result c.entry-e.result l c.entry-b.ensures.0 c.entry-e.ensures.0 c.entry.result c.entry.ensures.0 c.if-entry-gt0.false h (c.stands.ensures e)
