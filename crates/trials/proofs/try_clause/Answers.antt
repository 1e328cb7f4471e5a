use native.Mathlib.Omega.{arith}
use mathlib.Core.Path.{refl, ap}
use lib.ListN.{length}
use Rattle.search.specs.Next.{clause_at}
use Rattle.trials.specs.Trying.{clause_words}
use Rattle.picking.proofs.Picks.{placed_at, head-placed}
use Rattle.trials.proofs.Tests.{first_part, row-short, formula-words, clause-is, clause-held, clause-valid, clause-ends, row_kept, lent-made, lent-formula, lent-head, lent-low, heap-end, tested}
use borrow.Author.Rules.{rules}
use Rattle.trials.proofs.try_clause.Goals as goal

pub entry-s-requires : goal.entry-s-requires
entry-s-requires c = (search rules, omega (arith, c.requires.fronted.0.2, c.requires.fronted.0.1.held.few), omega (arith, c.requires.fronted.0.2, c.requires.fronted.0.1.long))

pub entry-e-requires : goal.entry-e-requires
entry-e-requires c = (search rules, omega (arith, c.requires.fronted.0.2, c.requires.fronted.0.1.held.few), omega (arith, c.requires.fronted.0.2, c.requires.fronted.0.1.long))

pub slice_bounds-told_apart-end : goal.slice_bounds-told_apart-end
slice_bounds-told_apart-end c = omega (arith, first_part c.requires.fronted.1.3)

pub slice_bounds-told_apart-count-2 : goal.slice_bounds-told_apart-count-2
slice_bounds-told_apart-count-2 c = omega (arith, (placed_at c.requires.fronted.0.1 c.args.i _ _ c.requires.fronted.0.2 c.entry-s.ensures.0 c.entry-e.ensures.0).begins)

pub slice_bounds-told_apart-start-2 : goal.slice_bounds-told_apart-start-2
slice_bounds-told_apart-start-2 c = omega (arith, (placed_at c.requires.fronted.0.1 c.args.i _ _ c.requires.fronted.0.2 c.entry-s.ensures.0 c.entry-e.ensures.0).begins)

pub slice_bounds-told_apart-end-2 : goal.slice_bounds-told_apart-end-2
slice_bounds-told_apart-end-2 c = let d = placed_at c.requires.fronted.0.1 c.args.i _ _ c.requires.fronted.0.2 c.entry-s.ensures.0 c.entry-e.ensures.0 in omega (arith, d.ends, d.within)

pub told_apart-requires : goal.told_apart-requires
told_apart-requires c = ((_, formula-words c.requires.fronted.1.3), (clause_at c.requires.fronted.0.0 c.args.i, _, head-placed c.requires.fronted.0.1 c.args.i _ _ c.requires.fronted.0.2 c.entry-s.ensures.0 c.entry-e.ensures.0))

pub returns-then-told_apart : goal.returns-then-told_apart
returns-then-told_apart c = record { row = refl; tested = λ P f g a o l x. (c.told_apart.ensures.apart c.if-told_apart.true f (clause_at P c.args.i) _ (formula-words x) (head-placed o c.args.i _ _ l c.entry-s.ensures.0 c.entry-e.ensures.0), c.requires.cells_len.1) }

pub overflow_add-i : goal.overflow_add-i
overflow_add-i c = record { fits = omega (arith, c.requires.fronted.0.2, c.requires.fronted.0.1.held.few) }

pub entry-t-requires : goal.entry-t-requires
entry-t-requires c = (search rules, omega (arith, c.requires.fronted.0.2, c.requires.fronted.0.1.held.few), omega (arith, c.requires.fronted.0.2, c.requires.fronted.0.1.long))

pub slice_bounds-append-count : goal.slice_bounds-append-count
slice_bounds-append-count c = omega (arith, (clause-ends c.requires.fronted.0.1 c.args.i _ _ c.requires.fronted.0.2 c.entry-s.ensures.0 c.entry-t.ensures.0).0)

pub slice_bounds-append-start : goal.slice_bounds-append-start
slice_bounds-append-start c = omega (arith, (clause-ends c.requires.fronted.0.1 c.args.i _ _ c.requires.fronted.0.2 c.entry-s.ensures.0 c.entry-t.ensures.0).0)

pub slice_bounds-append-end : goal.slice_bounds-append-end
slice_bounds-append-end c = omega (arith, (clause-ends c.requires.fronted.0.1 c.args.i _ _ c.requires.fronted.0.2 c.entry-s.ensures.0 c.entry-t.ensures.0).1)

pub append-r-requires : goal.append-r-requires
append-r-requires c = (omega (arith, row-short c.requires.fronted.1.3, ap length (clause-is c.requires.fronted.0.1 c.args.i _ _ c.requires.fronted.0.2 c.entry-s.ensures.0 c.entry-t.ensures.0), (clause-held c.requires.fronted.0.1 c.args.i _ _ c.requires.fronted.0.2 c.entry-s.ensures.0 c.entry-t.ensures.0).size), omega arith, omega arith, clause-valid c.requires.fronted.0.1 c.args.i _ _ c.requires.fronted.0.2 c.entry-s.ensures.0 c.entry-t.ensures.0)

pub slice_bounds-try_rows-end : goal.slice_bounds-try_rows-end
slice_bounds-try_rows-end c = omega (arith, c.append-r.auto.dst, heap-end c.requires.fronted.1.3 _ (clause_words c.args.book.now c.args.shelf.now (length c.requires.fronted.0.0) c.args.i) c.append-r.new.dst _ _ _ (clause_at c.requires.fronted.0.0 c.args.i) c.append-r.ensures (clause-is c.requires.fronted.0.1 c.args.i _ _ c.requires.fronted.0.2 c.entry-s.ensures.0 c.entry-t.ensures.0) (clause-held c.requires.fronted.0.1 c.args.i _ _ c.requires.fronted.0.2 c.entry-s.ensures.0 c.entry-t.ensures.0), row-short c.requires.fronted.1.3, (clause-held c.requires.fronted.0.1 c.args.i _ _ c.requires.fronted.0.2 c.entry-s.ensures.0 c.entry-t.ensures.0).size)

pub try_rows-requires : goal.try_rows-requires
try_rows-requires c = (lent-made c.requires.fronted.1.3 _ (clause_words c.args.book.now c.args.shelf.now (length c.requires.fronted.0.0) c.args.i) c.append-r.new.dst _ _ _ (clause_at c.requires.fronted.0.0 c.args.i) c.append-r.ensures (clause-is c.requires.fronted.0.1 c.args.i _ _ c.requires.fronted.0.2 c.entry-s.ensures.0 c.entry-t.ensures.0) (clause-held c.requires.fronted.0.1 c.args.i _ _ c.requires.fronted.0.2 c.entry-s.ensures.0 c.entry-t.ensures.0) _ c.requires.cells_len.0 c.requires.cells_len.1, c.requires.cells_len.1, c.requires.cells_len.0, lent-formula c.requires.fronted.1.3 _ (clause_words c.args.book.now c.args.shelf.now (length c.requires.fronted.0.0) c.args.i) c.append-r.new.dst _ _ _ (clause_at c.requires.fronted.0.0 c.args.i) c.append-r.ensures (clause-is c.requires.fronted.0.1 c.args.i _ _ c.requires.fronted.0.2 c.entry-s.ensures.0 c.entry-t.ensures.0) (clause-held c.requires.fronted.0.1 c.args.i _ _ c.requires.fronted.0.2 c.entry-s.ensures.0 c.entry-t.ensures.0), lent-head c.requires.fronted.1.3 _ (clause_words c.args.book.now c.args.shelf.now (length c.requires.fronted.0.0) c.args.i) c.append-r.new.dst _ _ _ (clause_at c.requires.fronted.0.0 c.args.i) c.append-r.ensures (clause-is c.requires.fronted.0.1 c.args.i _ _ c.requires.fronted.0.2 c.entry-s.ensures.0 c.entry-t.ensures.0) (clause-held c.requires.fronted.0.1 c.args.i _ _ c.requires.fronted.0.2 c.entry-s.ensures.0 c.entry-t.ensures.0), lent-low c.requires.fronted.1.3 _ (clause_words c.args.book.now c.args.shelf.now (length c.requires.fronted.0.0) c.args.i) c.append-r.new.dst _ _ _ (clause_at c.requires.fronted.0.0 c.args.i) c.append-r.ensures (clause-is c.requires.fronted.0.1 c.args.i _ _ c.requires.fronted.0.2 c.entry-s.ensures.0 c.entry-t.ensures.0) (clause-held c.requires.fronted.0.1 c.args.i _ _ c.requires.fronted.0.2 c.entry-s.ensures.0 c.entry-t.ensures.0))

pub returns : goal.returns
returns c = record { row = row_kept c.requires.fronted.1.3 _ (clause_words c.args.book.now c.args.shelf.now (length c.requires.fronted.0.0) c.args.i) c.append-r.new.dst _ _ _ (clause_at c.requires.fronted.0.0 c.args.i) c.append-r.ensures (clause-is c.requires.fronted.0.1 c.args.i _ _ c.requires.fronted.0.2 c.entry-s.ensures.0 c.entry-t.ensures.0) (clause-held c.requires.fronted.0.1 c.args.i _ _ c.requires.fronted.0.2 c.entry-s.ensures.0 c.entry-t.ensures.0) (omega (arith, c.append-r.auto.dst, heap-end c.requires.fronted.1.3 _ (clause_words c.args.book.now c.args.shelf.now (length c.requires.fronted.0.0) c.args.i) c.append-r.new.dst _ _ _ (clause_at c.requires.fronted.0.0 c.args.i) c.append-r.ensures (clause-is c.requires.fronted.0.1 c.args.i _ _ c.requires.fronted.0.2 c.entry-s.ensures.0 c.entry-t.ensures.0) (clause-held c.requires.fronted.0.1 c.args.i _ _ c.requires.fronted.0.2 c.entry-s.ensures.0 c.entry-t.ensures.0), row-short c.requires.fronted.1.3, (clause-held c.requires.fronted.0.1 c.args.i _ _ c.requires.fronted.0.2 c.entry-s.ensures.0 c.entry-t.ensures.0).size)); tested = λ P f g a o l x. tested x _ (clause_words c.args.book.now c.args.shelf.now (length P) c.args.i) c.append-r.new.dst _ _ _ (clause_at P c.args.i) c.append-r.ensures (clause-is o c.args.i _ _ l c.entry-s.ensures.0 c.entry-t.ensures.0) (clause-held o c.args.i _ _ l c.entry-s.ensures.0 c.entry-t.ensures.0) _ _ c.try_rows.result c.try_rows.ensures }
