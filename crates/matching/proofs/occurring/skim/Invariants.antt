use Prim.Native.Nat.{◌+◌}
use mathlib.Core.Path.{◌≡◌}
use mathlib.Core.List.{[]}
use Rattle.heap.specs.Walking.{flat}
use Rattle.matching.specs.Occurring.{Seeking}
use Rattle.matching.proofs.occurring.skim.Given as goal

abbrev pub invariant-loop-due : goal.invariant-loop-due
invariant-loop-due l = Seeking l.heap l.cells l.v l.p l.fuel [] l.left (flat l.«at» l.due) × (l.sought ≡ 16777216 + l.v)

abbrev pub decreases-loop-due : goal.decreases-loop-due
decreases-loop-due l = l.left
