use mathlib.Core.Path.{subst}
use Rattle.matching.specs.Meeting.{Met}
use Rattle.matching.proofs.StepLaws.{step_join, step_hang}
use Rattle.matching.proofs.unifying.make.Goals as goal

pub returns-in-Join : goal.returns-in-Join
returns-in-Join c = let m = subst (Met _ _ _ _) c.in-Join.is c.meet.ensures in step_join c.args.heap.now c.args.cells.now c.args.trail.now c.args.t c.args.p c.args.q c.requires.made.0 m.0 (m.1, m.2, m.3) c.requires.fuel_bound.2 c.bind-count.ensures.count c.bind-count.ensures.cells c.bind-count.ensures.trail

pub returns-in-Hang : goal.returns-in-Hang
returns-in-Hang c = let m = subst (Met _ _ _ _) c.in-Hang.is c.meet.ensures in step_hang c.args.heap.now c.args.cells.now c.args.trail.now c.args.t c.args.p c.args.q c.requires.made.0 m.0 m.1 c.requires.made.1 c.requires.fuel_bound.2 _ _ c.hang.result c.hang.ensures
