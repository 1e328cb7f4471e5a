use borrow.Author.Rules.{rules}
use native.Mathlib.Omega.{arith}
use mathlib.Core.Path.{subst, ap, ◌∙◌}
use lib.ListN.{drop, length-drop}
use lib.Seq.{length-take-le}
use Rattle.matching.specs.Fitting.{Fitting}
use Rattle.attempts.proofs.Undoing.{start-few, begins, trail_long, trail-back, undoable, fore-part, weighed-back}
use borrow.Rule.Slice.PartMut.{same_len_mid}
use Rattle.attempts.proofs.try_rows.Goals as goal

pub fit-requires : goal.fit-requires
fit-requires c = let f = start-few c.args.s _ c.begun-t.ensures in record { made = (c.requires.0.made, c.requires.0.solved, omega (arith, c.requires.0.long), c.requires.0.first, c.requires.0.head, begins c.requires.0 _ c.begun-t.ensures); fuel_bound = (f.0, omega (arith, length-take-le 514 (drop 514 c.args.levels.now) (omega (arith, length-drop 514 c.args.levels.now, c.requires.1))), omega (arith, f.1, trail_long c.args.rows.now (search rules)), omega (arith, c.requires.2), omega (arith, c.requires.0.room, ap (λ t. t.base) c.begun-t.ensures.2)) }

pub release-requires : goal.release-requires
release-requires c = let e = subst (Fitting _ _ _ c.begun-t.result _ _ _ _) c.in-Clash.is c.fit.ensures in (c.fit.auto.cells ∙ c.requires.0.long, c.requires.0.room, (_, undoable c.requires.0 c.args.rows.now c.fit.new.cells c.fit.new.trail _ _ (trail-back c.args.rows.now c.fit.new.trail (search rules) c.fit.auto.trail) _ c.begun-t.ensures e.0 e.2))

pub release-requires-in-Tired : goal.release-requires-in-Tired
release-requires-in-Tired c = let e = subst (Fitting _ _ _ c.begun-t.result _ _ _ _) c.in-Tired.is c.fit.ensures in (c.fit.auto.cells ∙ c.requires.0.long, c.requires.0.room, (_, undoable c.requires.0 c.args.rows.now c.fit.new.cells c.fit.new.trail _ _ (trail-back c.args.rows.now c.fit.new.trail (search rules) c.fit.auto.trail) _ c.begun-t.ensures e.0 e.1))

pub returns-in-Fits : goal.returns-in-Fits
returns-in-Fits c = let e = subst (Fitting _ _ _ c.begun-t.result _ _ _ _) c.in-Fits.is c.fit.ensures in record { attempted = (record { more = e.0.0; undoable = undoable c.requires.0 c.args.rows.now c.fit.new.cells c.fit.new.trail _ _ (trail-back c.args.rows.now c.fit.new.trail (search rules) c.fit.auto.trail) _ c.begun-t.ensures e.0.1 e.0.3; unseen = e.0.3 }, weighed-back c.args.heap.now c.fit.new.cells c.in-Fits.count c.in-Fits.size (ap (λ t. t.base) c.begun-t.ensures.2) (trail-back c.args.rows.now c.fit.new.trail (search rules) c.fit.auto.trail) e.1); levels = fore-part c.args.levels.now c.fit.new.levels c.requires.1 c.fit.auto.levels }

pub returns-in-Clash : goal.returns-in-Clash
returns-in-Clash c = let e = subst (Fitting _ _ _ c.begun-t.result _ _ _ _) c.in-Clash.is c.fit.ensures in record { attempted = (c.release.ensures _ (undoable c.requires.0 c.args.rows.now c.fit.new.cells c.fit.new.trail _ _ (trail-back c.args.rows.now c.fit.new.trail (search rules) c.fit.auto.trail) _ c.begun-t.ensures e.0 e.2), e.1); levels = fore-part c.args.levels.now c.fit.new.levels c.requires.1 c.fit.auto.levels }

pub returns-in-Tired : goal.returns-in-Tired
returns-in-Tired c = let e = subst (Fitting _ _ _ c.begun-t.result _ _ _ _) c.in-Tired.is c.fit.ensures in record { attempted = c.release-in-Tired.ensures _ (undoable c.requires.0 c.args.rows.now c.fit.new.cells c.fit.new.trail _ _ (trail-back c.args.rows.now c.fit.new.trail (search rules) c.fit.auto.trail) _ c.begun-t.ensures e.0 e.1); levels = fore-part c.args.levels.now c.fit.new.levels c.requires.1 c.fit.auto.levels }
