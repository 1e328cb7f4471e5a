use borrow.Author.Rules.{rules}
use Prim.Native.Nat.{◌-◌, ◌<◌}
use native.Mathlib.Omega.{arith}
use mathlib.Core.Path.{ap, ◌∙◌}
use lib.ListN.{length, take, drop}
use Rattle.heapgoals.specs.HoldLaws.{fore-after}
use Rattle.attempts.proofs.Seeking.{at-below, placed, clause-is, lent-made, lent-lead, lead-some, seek-start, held-now, found_here, none_here, kept-clash, kept_tired, seek-again}
use Rattle.attempts.proofs.FactLaws.{found-given}
use Rattle.attempts.proofs.first_fit.Goals as goal

pub clauses-all-requires : goal.clauses-all-requires
clauses-all-requires c = omega (arith, c.requires.holds.0.1.long)

pub word-u-requires : goal.word-u-requires
word-u-requires c = omega (arith, at-below c.requires.holds.1.3, c.requires.holds.1.3.inside)

pub slice_bounds-lead-end : goal.slice_bounds-lead-end
slice_bounds-lead-end c = omega (arith, c.requires.holds.1.3.inside)

pub lead-x-requires : goal.lead-x-requires
lead-x-requires c = lent-made c.requires.holds.1.3

pub find-requires : goal.find-requires
find-requires c = (_, c.requires.holds.0.1, omega arith)

pub hopeful-i-requires : goal.hopeful-i-requires
hopeful-i-requires c = (lead-some c.requires.holds.1.3 c.lead-x.ensures c.word-u.ensures, (_, _, c.requires.holds.0.1, c.find.ensures _ c.requires.holds.0.1))

pub loop-i-init : goal.loop-i-init
loop-i-init c = seek-start (lent-lead c.requires.holds.1.3 c.lead-x.ensures) c.requires.holds.0.0 c.requires.holds.0.1 (c.clauses-all.ensures _ c.requires.holds.0.1.long) c.word-u.ensures (λ P o. (c.hopeful-i.ensures P _ o (c.find.ensures P o)).over)

pub is_given-requires : goal.is_given-requires
is_given-requires c = record { book_on = (_, c.requires.holds.0.1, omega (arith, c.loop-i-test.true, c.clauses-all.ensures _ c.requires.holds.0.1.long)); by_index = (_, _, _, _, _, held-now c.loop-i.invariant c.requires.holds.1.3) }

pub shape_of-words-then-is_given : goal.shape_of-words-then-is_given
shape_of-words-then-is_given c = c.loop-i.invariant.words_long

pub shape_of-cells-then-is_given : goal.shape_of-cells-then-is_given
shape_of-cells-then-is_given c = ap length c.loop-i.invariant.cells_are

pub shape_of-levels-then-is_given : goal.shape_of-levels-then-is_given
shape_of-levels-then-is_given c = c.loop-i.invariant.fore.long

pub shape_of-stack-then-is_given : goal.shape_of-stack-then-is_given
shape_of-stack-then-is_given c = c.loop-i.invariant.stack_long

pub returns-then-is_given : goal.returns-then-is_given
returns-then-is_given c = record { words = c.loop-i.invariant.front; levels = c.loop-i.invariant.fore; sought = λ P f g a o h. let l : c.loop-i.i < length P = omega (arith, c.loop-i-test.true, c.clauses-all.ensures _ o.long) in found-given c.loop-i.invariant o h l (c.is_given.ensures c.if-is_given.true P _ _ f g a o l (held-now c.loop-i.invariant h)) }

pub entry-b-requires : goal.entry-b-requires
entry-b-requires c = (omega arith, omega (arith, c.loop-i-test.true, c.clauses-all.ensures _ c.requires.holds.0.1.long, c.requires.holds.0.1.held.few), omega (arith, c.loop-i-test.true, c.clauses-all.ensures _ c.requires.holds.0.1.long, c.requires.holds.0.1.long))

pub entry-e-requires : goal.entry-e-requires
entry-e-requires c = (omega arith, omega (arith, c.loop-i-test.true, c.clauses-all.ensures _ c.requires.holds.0.1.long, c.requires.holds.0.1.held.few), omega (arith, c.loop-i-test.true, c.clauses-all.ensures _ c.requires.holds.0.1.long, c.requires.holds.0.1.long))

pub overflow_add-i : goal.overflow_add-i
overflow_add-i c = record { fits = omega (arith, c.loop-i-test.true, c.clauses-all.ensures _ c.requires.holds.0.1.long, c.requires.holds.0.1.held.few) }

pub entry-t-requires : goal.entry-t-requires
entry-t-requires c = (omega arith, omega (arith, c.loop-i-test.true, c.clauses-all.ensures _ c.requires.holds.0.1.long, c.requires.holds.0.1.held.few), omega (arith, c.loop-i-test.true, c.clauses-all.ensures _ c.requires.holds.0.1.long, c.requires.holds.0.1.long))

pub slice_bounds-try_clause-count : goal.slice_bounds-try_clause-count
slice_bounds-try_clause-count c = let d = (placed c.requires.holds.0.1 c.loop-i.i c.entry-b.result c.entry-e.result c.entry-t.result (omega (arith, c.loop-i-test.true, c.clauses-all.ensures _ c.requires.holds.0.1.long)) c.entry-b.ensures.0 c.entry-e.ensures.0 c.entry-t.ensures.0) in omega (arith, d.begins, d.ends)

pub slice_bounds-try_clause-start : goal.slice_bounds-try_clause-start
slice_bounds-try_clause-start c = let d = (placed c.requires.holds.0.1 c.loop-i.i c.entry-b.result c.entry-e.result c.entry-t.result (omega (arith, c.loop-i-test.true, c.clauses-all.ensures _ c.requires.holds.0.1.long)) c.entry-b.ensures.0 c.entry-e.ensures.0 c.entry-t.ensures.0) in omega (arith, d.begins, d.ends)

pub slice_bounds-try_clause-end : goal.slice_bounds-try_clause-end
slice_bounds-try_clause-end c = let d = (placed c.requires.holds.0.1 c.loop-i.i c.entry-b.result c.entry-e.result c.entry-t.result (omega (arith, c.loop-i-test.true, c.clauses-all.ensures _ c.requires.holds.0.1.long)) c.entry-b.ensures.0 c.entry-e.ensures.0 c.entry-t.ensures.0) in omega (arith, d.within)

pub overflow_sub-e : goal.overflow_sub-e
overflow_sub-e c = let d = (placed c.requires.holds.0.1 c.loop-i.i c.entry-b.result c.entry-e.result c.entry-t.result (omega (arith, c.loop-i-test.true, c.clauses-all.ensures _ c.requires.holds.0.1.long)) c.entry-b.ensures.0 c.entry-e.ensures.0 c.entry-t.ensures.0) in omega (arith, d.begins)

pub try_clause-requires : goal.try_clause-requires
try_clause-requires c = record { words_len_bound = (omega (arith, c.requires.words_len_bound.0, c.loop-i.invariant.words_long), omega (arith, c.requires.words_len_bound.1, c.loop-i.invariant.words_long), c.requires.words_len_bound.2, c.loop-i.invariant.stack_long ∙ c.requires.words_len_bound.3); by_index = ((_, _, _, held-now c.loop-i.invariant c.requires.holds.1.3), (_, _, (placed c.requires.holds.0.1 c.loop-i.i c.entry-b.result c.entry-e.result c.entry-t.result (omega (arith, c.loop-i-test.true, c.clauses-all.ensures _ c.requires.holds.0.1.long)) c.entry-b.ensures.0 c.entry-e.ensures.0 c.entry-t.ensures.0).clause)) }

pub shape_of-words-in-Fits : goal.shape_of-words-in-Fits
shape_of-words-in-Fits c = c.try_clause.auto.words ∙ c.loop-i.invariant.words_long

pub shape_of-cells-in-Fits : goal.shape_of-cells-in-Fits
shape_of-cells-in-Fits c = c.try_clause.auto.cells ∙ ap length c.loop-i.invariant.cells_are

pub shape_of-levels-in-Fits : goal.shape_of-levels-in-Fits
shape_of-levels-in-Fits c = c.try_clause.auto.levels ∙ c.loop-i.invariant.fore.long

pub shape_of-stack-in-Fits : goal.shape_of-stack-in-Fits
shape_of-stack-in-Fits c = c.try_clause.auto.stack ∙ c.loop-i.invariant.stack_long

pub returns-in-Fits : goal.returns-in-Fits
returns-in-Fits c = record { words = c.try_clause.ensures.words ∙ c.loop-i.invariant.front; levels = fore-after c.loop-i.invariant.fore c.try_clause.ensures.levels; sought = λ P f g a o h. found_here c.loop-i.invariant o h (omega (arith, c.loop-i-test.true, c.clauses-all.ensures _ o.long)) (take (c.entry-t.result - c.entry-b.result) (drop c.entry-b.result c.args.book.now)) c.try_clause.new.words c.try_clause.new.cells c.try_clause.new.rows (clause-is o c.loop-i.i c.entry-b.result c.entry-e.result c.entry-t.result (omega (arith, c.loop-i-test.true, c.clauses-all.ensures _ o.long)) c.entry-b.ensures.0 c.entry-e.ensures.0 c.entry-t.ensures.0) c.try_clause.result (c.try_clause.ensures.tested f g a _ _ (held-now c.loop-i.invariant h) (placed o c.loop-i.i c.entry-b.result c.entry-e.result c.entry-t.result (omega (arith, c.loop-i-test.true, c.clauses-all.ensures _ o.long)) c.entry-b.ensures.0 c.entry-e.ensures.0 c.entry-t.ensures.0).clause) _ _ c.in-Fits.is }

pub find_next-requires : goal.find_next-requires
find_next-requires c = (_, c.requires.holds.0.1, (omega (arith, c.loop-i-test.true, c.clauses-all.ensures _ c.requires.holds.0.1.long)))

pub hopeful-i-requires-in-Clash : goal.hopeful-i-requires-in-Clash
hopeful-i-requires-in-Clash c = (lead-some c.requires.holds.1.3 c.lead-x.ensures c.word-u.ensures, (_, _, c.requires.holds.0.1, c.find_next.ensures _ c.requires.holds.0.1 (omega (arith, c.loop-i-test.true, c.clauses-all.ensures _ c.requires.holds.0.1.long)) (c.loop-i.invariant.begins _ c.requires.holds.0.1 (omega (arith, c.loop-i-test.true, c.clauses-all.ensures _ c.requires.holds.0.1.long)))))

pub loop-i-smaller : goal.loop-i-smaller
loop-i-smaller c = let x = (c.hopeful-i-in-Clash.ensures _ _ c.requires.holds.0.1 (c.find_next.ensures _ c.requires.holds.0.1 (omega (arith, c.loop-i-test.true, c.clauses-all.ensures _ c.requires.holds.0.1.long)) (c.loop-i.invariant.begins _ c.requires.holds.0.1 (omega (arith, c.loop-i-test.true, c.clauses-all.ensures _ c.requires.holds.0.1.long))))).over in omega (arith, x.low, c.loop-i-test.true)

pub loop-i-preserved : goal.loop-i-preserved
loop-i-preserved c = seek-again c.loop-i.invariant (lent-lead c.requires.holds.1.3 c.lead-x.ensures) c.requires.holds.0.0 c.requires.holds.0.1 (λ P o. c.clauses-all.ensures _ o.long) c.loop-i-test.true c.word-u.ensures (λ P o l e. (c.hopeful-i-in-Clash.ensures P _ o (c.find_next.ensures P o l e)).over) c.try_clause.auto.words (kept-clash c.loop-i.invariant c.requires.holds.0.1 c.requires.holds.1.3 (omega (arith, c.loop-i-test.true, c.clauses-all.ensures _ c.requires.holds.0.1.long)) (take (c.entry-t.result - c.entry-b.result) (drop c.entry-b.result c.args.book.now)) c.try_clause.new.words c.try_clause.new.cells c.try_clause.new.rows (clause-is c.requires.holds.0.1 c.loop-i.i c.entry-b.result c.entry-e.result c.entry-t.result (omega (arith, c.loop-i-test.true, c.clauses-all.ensures _ c.requires.holds.0.1.long)) c.entry-b.ensures.0 c.entry-e.ensures.0 c.entry-t.ensures.0) c.try_clause.result (c.try_clause.ensures.tested _ _ _ _ _ (held-now c.loop-i.invariant c.requires.holds.1.3) (placed c.requires.holds.0.1 c.loop-i.i c.entry-b.result c.entry-e.result c.entry-t.result (omega (arith, c.loop-i-test.true, c.clauses-all.ensures _ c.requires.holds.0.1.long)) c.entry-b.ensures.0 c.entry-e.ensures.0 c.entry-t.ensures.0).clause) c.in-Clash.is) (search rules) c.try_clause.ensures.levels c.try_clause.auto.stack c.try_clause.ensures.words (λ P f g a o h l. none_here c.loop-i.invariant o h l (take (c.entry-t.result - c.entry-b.result) (drop c.entry-b.result c.args.book.now)) c.try_clause.new.words c.try_clause.new.cells c.try_clause.new.rows (clause-is o c.loop-i.i c.entry-b.result c.entry-e.result c.entry-t.result l c.entry-b.ensures.0 c.entry-e.ensures.0 c.entry-t.ensures.0) c.try_clause.result (c.try_clause.ensures.tested f g a _ _ (held-now c.loop-i.invariant h) (placed o c.loop-i.i c.entry-b.result c.entry-e.result c.entry-t.result l c.entry-b.ensures.0 c.entry-e.ensures.0 c.entry-t.ensures.0).clause) c.in-Clash.is)

pub shape_of-words-in-Tired : goal.shape_of-words-in-Tired
shape_of-words-in-Tired c = c.try_clause.auto.words ∙ c.loop-i.invariant.words_long

pub shape_of-cells-in-Tired : goal.shape_of-cells-in-Tired
shape_of-cells-in-Tired c = c.try_clause.auto.cells ∙ ap length c.loop-i.invariant.cells_are

pub shape_of-levels-in-Tired : goal.shape_of-levels-in-Tired
shape_of-levels-in-Tired c = c.try_clause.auto.levels ∙ c.loop-i.invariant.fore.long

pub shape_of-stack-in-Tired : goal.shape_of-stack-in-Tired
shape_of-stack-in-Tired c = c.try_clause.auto.stack ∙ c.loop-i.invariant.stack_long

pub returns-in-Tired : goal.returns-in-Tired
returns-in-Tired c = record { words = c.try_clause.ensures.words ∙ c.loop-i.invariant.front; levels = fore-after c.loop-i.invariant.fore c.try_clause.ensures.levels; sought = λ P f g a o h. kept_tired c.loop-i.invariant o h (omega (arith, c.loop-i-test.true, c.clauses-all.ensures _ o.long)) (take (c.entry-t.result - c.entry-b.result) (drop c.entry-b.result c.args.book.now)) c.try_clause.new.words c.try_clause.new.cells c.try_clause.new.rows (clause-is o c.loop-i.i c.entry-b.result c.entry-e.result c.entry-t.result (omega (arith, c.loop-i-test.true, c.clauses-all.ensures _ o.long)) c.entry-b.ensures.0 c.entry-e.ensures.0 c.entry-t.ensures.0) c.try_clause.result (c.try_clause.ensures.tested f g a _ _ (held-now c.loop-i.invariant h) (placed o c.loop-i.i c.entry-b.result c.entry-e.result c.entry-t.result (omega (arith, c.loop-i-test.true, c.clauses-all.ensures _ o.long)) c.entry-b.ensures.0 c.entry-e.ensures.0 c.entry-t.ensures.0).clause) c.in-Tired.is }

pub shape_of-words : goal.shape_of-words
shape_of-words c = c.loop-i.invariant.words_long

pub shape_of-cells : goal.shape_of-cells
shape_of-cells c = ap length c.loop-i.invariant.cells_are

pub shape_of-levels : goal.shape_of-levels
shape_of-levels c = c.loop-i.invariant.fore.long

pub shape_of-stack : goal.shape_of-stack
shape_of-stack c = c.loop-i.invariant.stack_long

pub returns : goal.returns
returns c = record { words = c.loop-i.invariant.front; levels = c.loop-i.invariant.fore; sought = λ P f g a o h. c.loop-i.invariant.cells_are }
