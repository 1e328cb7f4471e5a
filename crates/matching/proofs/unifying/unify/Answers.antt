use native.Mathlib.Omega.{arith}
use mathlib.Core.Path.{◌∙◌, subst}
use Rattle.matching.specs.Unifying.{Stepped}
use Rattle.matching.proofs.UnifyLaws.{first-pair, still_unmixed, pair-few, unify-end, unify-done, unify-inside, unify-clash, unify_tired}
use Rattle.matching.proofs.unifying.unify.Goals as goal

pub make-requires-clause-made : goal.make-requires-clause-made
make-requires-clause-made c = (c.loop-x.invariant.0.made, c.loop-x.invariant.0.solved c.requires.made.1.0 c.requires.made.1.1, omega (arith, c.loop-x.invariant.0.long, c.requires.made.2), still_unmixed c.loop-x.invariant.0 c.requires.made.5 0)

pub make-requires-clause-fuel_bound : goal.make-requires-clause-fuel_bound
make-requires-clause-fuel_bound c = let w = first-pair c.loop-x.invariant.0 c.loop-x-test.true in (omega (arith, c.loop-x.invariant.0.less, c.requires.fuel_bound.0), omega (arith, c.loop-x.invariant.1, c.requires.fuel_bound.1), omega (arith, c.loop-x.invariant.0.spent, c.requires.fuel_bound.2, c.loop-x.invariant.0.trail_long, c.if-fuel-spent.false), w.0, w.1)

pub loop-x-preserved-in-Done : goal.loop-x-preserved-in-Done
loop-x-preserved-in-Done c = (unify-done c.loop-x.invariant.0 c.behind-rest.ensures (subst (Stepped _ _ _ _ _ _ _ _) c.in-Done.is c.make.ensures) (omega (arith, c.if-fuel-spent.false)) c.settled-x.ensures, c.make.auto.levels ∙ c.loop-x.invariant.1, c.loop-x.invariant.2)

pub entered-x-requires : goal.entered-x-requires
entered-x-requires c = (omega (arith, c.behind-rest.ensures.depth, c.if-x-ge-DEEP.false), omega (arith, c.behind-rest.ensures.left_inside, c.loop-x.invariant.0.made.short), omega (arith, c.behind-rest.ensures.right_inside, c.loop-x.invariant.0.made.short), omega (arith, c.behind-rest.ensures.due, pair-few c.loop-x.invariant.0, c.loop-x.invariant.0.made.short), omega (arith, c.behind-rest.ensures.depth, c.if-x-ge-DEEP.false, c.loop-x.invariant.2, c.requires.fuel_bound.3))

pub loop-x-preserved : goal.loop-x-preserved
loop-x-preserved c = (unify-inside c.loop-x.invariant.0 c.behind-rest.ensures (subst (Stepped _ _ _ _ _ _ _ _) c.in-Inside.is c.make.ensures) (omega (arith, c.if-fuel-spent.false)) c.entered-x.ensures, c.make.auto.levels ∙ c.loop-x.invariant.1, c.entered-x.ensures.long ∙ c.loop-x.invariant.2)

pub returns-in-Clash : goal.returns-in-Clash
returns-in-Clash c = unify-clash c.loop-x.invariant.0 c.behind-rest.ensures (subst (Stepped _ _ _ _ _ _ _ _) c.in-Clash.is c.make.ensures)

pub returns-in-Tired : goal.returns-in-Tired
returns-in-Tired c = unify_tired c.loop-x.invariant.0 c.behind-rest.ensures (subst (Stepped _ _ _ _ _ _ _ _) c.in-Tired.is c.make.ensures)

pub returns : goal.returns
returns c = unify-end c.loop-x.invariant.0 (omega (arith, c.loop-x-test.false))
