use Prim.Native.Nat.{suc, ◌<◌}
use native.Mathlib.Omega.{arith}
use mathlib.Core.Path.{refl, sym as inv, ◌∙◌}
use lib.ListN.{length, take}
use Rattle.picking.proofs.Picks.{found_after}
use Rattle.trials.proofs.Tests.{fronted_still, found_here, passed_here, freed_clash, freed_tired, passed_on}
use borrow.Author.Rules.{rules}
use Rattle.trials.proofs.first_fit.Goals as goal

pub clauses-all-requires : goal.clauses-all-requires
clauses-all-requires c = omega (arith, c.requires.fronted.0.1.long)

pub word-u-requires : goal.word-u-requires
word-u-requires c = omega arith

pub find-i-requires : goal.find-i-requires
find-i-requires c = (_, c.requires.fronted.0.1, omega arith)

pub loop-i-init : goal.loop-i-init
loop-i-init c = (omega (arith, (c.find-i.ensures _ c.requires.fronted.0.1).high, c.clauses-all.ensures _ c.requires.fronted.0.1.long), (search rules), c.requires.cells_len.0, (search rules), c.requires.cells_len.1, refl, (λ P f g a o x. passed_on o x c.word-u.ensures (c.find-i.ensures P o) (λ j b l. absurd (omega (arith, l)))), λ P o. (c.find-i.ensures P o).here)

pub try_clause-requires : goal.try_clause-requires
try_clause-requires c = record { cells_len = (c.loop-i.invariant.2, c.loop-i.invariant.4); fronted = ((_, c.requires.fronted.0.1, omega (arith, c.loop-i-test.true, c.clauses-all.ensures _ c.requires.fronted.0.1.long)), (_, _, _, (fronted_still c.requires.fronted.1.3 c.loop-i.words c.loop-i.invariant.5 (search rules)))) }

pub shape_of-cells-in-Fits : goal.shape_of-cells-in-Fits
shape_of-cells-in-Fits c = c.try_clause.auto.cells ∙ c.loop-i.invariant.2 ∙ inv c.requires.cells_len.0

pub returns-in-Fits : goal.returns-in-Fits
returns-in-Fits c = λ P f g a o x. let l : c.loop-i.i < length P = omega (arith, c.loop-i-test.true, c.clauses-all.ensures _ o.long) in found_here P f c.args.book.now c.args.shelf.now (take c.args.n c.loop-i.words) (take c.args.n c.args.words.now) c.try_clause.new.words c.try_clause.new.cells c.try_clause.new.rows c.args.n c.loop-i.i c.try_clause.result (c.try_clause.ensures.tested P f g a o l (fronted_still x c.loop-i.words c.loop-i.invariant.5 (search rules))) _ c.in-Fits.is c.loop-i.invariant.5 l (c.loop-i.invariant.6 P f g a o x)

pub find_next-i-requires : goal.find_next-i-requires
find_next-i-requires c = (_, c.requires.fronted.0.1, omega (arith, c.loop-i-test.true, c.clauses-all.ensures _ c.requires.fronted.0.1.long))

pub loop-i-smaller : goal.loop-i-smaller
loop-i-smaller c = omega (arith, (found_after (λ P o. c.clauses-all.ensures _ o.long) c.loop-i-test.true c.loop-i.invariant.7 c.find_next-i.ensures _ c.requires.fronted.0.1).low, c.loop-i-test.true)

pub loop-i-preserved : goal.loop-i-preserved
loop-i-preserved c = let y = found_after (λ P o. c.clauses-all.ensures _ o.long) c.loop-i-test.true c.loop-i.invariant.7 c.find_next-i.ensures in (omega (arith, (y _ c.requires.fronted.0.1).high, c.clauses-all.ensures _ c.requires.fronted.0.1.long), search rules, c.try_clause.auto.cells ∙ c.loop-i.invariant.2, search rules, freed_clash c.requires.fronted.0.0 c.requires.fronted.1.0 c.args.book.now c.args.shelf.now (take c.args.n c.loop-i.words) (take c.args.n c.args.words.now) c.try_clause.new.words c.try_clause.new.cells c.try_clause.new.rows c.args.n c.loop-i.i c.try_clause.result (c.try_clause.ensures.tested c.requires.fronted.0.0 _ _ _ c.requires.fronted.0.1 (omega (arith, c.loop-i-test.true, c.clauses-all.ensures _ c.requires.fronted.0.1.long)) (fronted_still c.requires.fronted.1.3 c.loop-i.words c.loop-i.invariant.5 (search rules))) c.in-Clash.is, c.try_clause.ensures.row ∙ c.loop-i.invariant.5, (λ P f g a o x. let l : c.loop-i.i < length P = omega (arith, c.loop-i-test.true, c.clauses-all.ensures _ o.long) in passed_on o x c.word-u.ensures (y P o) (passed_here P f c.args.book.now c.args.shelf.now (take c.args.n c.loop-i.words) (take c.args.n c.args.words.now) c.try_clause.new.words c.try_clause.new.cells c.try_clause.new.rows c.args.n c.loop-i.i c.try_clause.result (c.try_clause.ensures.tested P f g a o l (fronted_still x c.loop-i.words c.loop-i.invariant.5 (search rules))) c.in-Clash.is (c.loop-i.invariant.6 P f g a o x) (suc c.loop-i.i) (omega arith))), λ P o. (y P o).here)

pub shape_of-cells-in-Tired : goal.shape_of-cells-in-Tired
shape_of-cells-in-Tired c = c.try_clause.auto.cells ∙ c.loop-i.invariant.2 ∙ inv c.requires.cells_len.0

pub returns-in-Tired : goal.returns-in-Tired
returns-in-Tired c = λ P f g a o x. let l : c.loop-i.i < length P = omega (arith, c.loop-i-test.true, c.clauses-all.ensures _ o.long) in freed_tired P f c.args.book.now c.args.shelf.now (take c.args.n c.loop-i.words) (take c.args.n c.args.words.now) c.try_clause.new.words c.try_clause.new.cells c.try_clause.new.rows c.args.n c.loop-i.i c.try_clause.result (c.try_clause.ensures.tested P f g a o l (fronted_still x c.loop-i.words c.loop-i.invariant.5 (search rules))) c.in-Tired.is

pub shape_of-cells : goal.shape_of-cells
shape_of-cells c = c.loop-i.invariant.2 ∙ inv c.requires.cells_len.0

pub returns : goal.returns
returns c = λ P f g a o x. c.loop-i.invariant.4
