use Prim.Native.Nat.{◌+◌}
use mathlib.Core.Path.{◌≡◌}
use lib.ListN.{length}
use Rattle.matching.specs.Occurring.{Seeking}
use Rattle.matching.proofs.occurring.seek.Given as goal

abbrev pub invariant-loop-w : goal.invariant-loop-w
invariant-loop-w l = Seeking l.heap l.cells l.v l.p l.fuel l.levels l.left l.w × (length l.levels ≡ length l.initial.levels) × (l.sought ≡ 16777216 + l.v)

abbrev pub decreases-loop-w : goal.decreases-loop-w
decreases-loop-w l = l.left
