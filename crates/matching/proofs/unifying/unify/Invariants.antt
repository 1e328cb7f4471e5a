use mathlib.Core.Path.{◌≡◌}
use lib.ListN.{length}
use Rattle.matching.proofs.UnifyLaws.{Unifying}
use Rattle.matching.proofs.unifying.unify.Given as goal

abbrev pub invariant-loop-x : goal.invariant-loop-x
invariant-loop-x l =
    Unifying l.heap l.initial.cells l.initial.trail l.t l.p l.q l.cells l.trail l.stack l.count l.fuel l.x × (length l.levels ≡ length l.initial.levels) × (length l.stack ≡ length l.initial.stack)

abbrev pub decreases-loop-x : goal.decreases-loop-x
decreases-loop-x l = l.fuel
