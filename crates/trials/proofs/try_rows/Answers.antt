use native.Mathlib.Omega.{arith}
use mathlib.Core.Path.{subst, ◌∙◌}
use Rattle.matching.specs.Unifying.{Unified}
use Rattle.matching.specs.TrialLaws.{free-solved, trial-clashes}
use Rattle.trials.proofs.Resets.{trail_long, trail-back, start-few, begins, undoable, fitted}
use borrow.Rule.Slice.PartMut.{same_len_mid}
use borrow.Author.Rules.{rules}
use Rattle.trials.proofs.try_rows.Goals as goal

pub unify-requires : goal.unify-requires
unify-requires c = let f = start-few _ _ c.begun-t.ensures in record { made = (c.requires.0, (_, free-solved c.requires.1), omega (arith, c.requires.2), c.requires.3, c.requires.4, begins c.requires.1 _ c.requires.5 _ c.begun-t.ensures); fuel_bound = (f.0, search rules, omega (arith, f.1, trail_long c.args.rows.now (search rules)), search rules) }

pub release-requires : goal.release-requires
release-requires c = let e = subst (Unified _ _ _ c.begun-t.result _ _ _ _) c.in-Clash.is c.unify.ensures in (c.unify.auto.cells ∙ c.requires.2, undoable c.args.heap.now c.args.cells.now c.args.rows.now c.requires.1 c.args.q c.unify.new.cells c.unify.new.trail _ _ (trail-back c.args.rows.now c.unify.new.trail (search rules) c.unify.auto.trail) _ c.begun-t.ensures e.0)

pub release-requires-in-Tired : goal.release-requires-in-Tired
release-requires-in-Tired c = let e = subst (Unified _ _ _ c.begun-t.result _ _ _ _) c.in-Tired.is c.unify.ensures in (c.unify.auto.cells ∙ c.requires.2, undoable c.args.heap.now c.args.cells.now c.args.rows.now c.requires.1 c.args.q c.unify.new.cells c.unify.new.trail _ _ (trail-back c.args.rows.now c.unify.new.trail (search rules) c.unify.auto.trail) _ c.begun-t.ensures e.0)

pub returns-in-Fits : goal.returns-in-Fits
returns-in-Fits c = let e = subst (Unified _ _ _ c.begun-t.result _ _ _ _) c.in-Fits.is c.unify.ensures in fitted c.args.heap.now c.args.cells.now c.args.rows.now c.requires.1 c.args.q c.unify.new.cells c.unify.new.trail _ _ (trail-back c.args.rows.now c.unify.new.trail (search rules) c.unify.auto.trail) _ c.begun-t.ensures e.1 e.0

pub returns-in-Clash : goal.returns-in-Clash
returns-in-Clash c = let e = subst (Unified _ _ _ c.begun-t.result _ _ _ _) c.in-Clash.is c.unify.ensures in (c.release.ensures, trial-clashes c.requires.1 0 c.args.q e.1)

pub returns-in-Tired : goal.returns-in-Tired
returns-in-Tired c = c.release-in-Tired.ensures
