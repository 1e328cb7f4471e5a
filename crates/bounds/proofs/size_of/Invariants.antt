use Prim.Native.Nat.{◌-◌}
use mathlib.Core.Path.{◌≡◌}
use lib.ListN.{length}
use Rattle.bounds.specs.CountLaws.{Counting}
use Rattle.bounds.proofs.size_of.Given as goal

abbrev pub invariant-loop-w : goal.invariant-loop-w
invariant-loop-w l = Counting l.heap l.cells l.«at» l.due l.limit l.levels l.nodes l.variables l.w × (length l.levels ≡ length l.initial.levels)

abbrev pub decreases-loop-w : goal.decreases-loop-w
decreases-loop-w l = l.limit - l.nodes
