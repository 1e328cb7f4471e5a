use Prim.Native.Nat.{◌+◌, ◌-◌, ◌≤◌}
use mathlib.Core.Path.{◌≡◌}
use mathlib.Core.List.{[]}
use Rattle.heap.specs.Walking.{flat}
use Rattle.bounds.specs.Places.{below}
use Rattle.bounds.specs.CountLaws.{Tallies, Counting}
use Rattle.matching.specs.Occurring.{Seeking}
use Rattle.matching.proofs.occurring.weight_apart.Given as goal

abbrev pub invariant-loop-due : goal.invariant-loop-due
invariant-loop-due l =
    Counting l.heap l.cells l.p 1 4096 [] l.nodes l.variables (flat l.«at» l.due) × Seeking l.heap l.cells l.v l.p 4096 [] (4096 - l.nodes) (flat l.«at» l.due) × (l.sought ≡ 16777216 + l.v) × Tallies l.heap l.cells l.p 1 (below l.base) [] l.old (flat l.«at» l.due) × (l.old ≤ l.variables)

abbrev pub decreases-loop-due : goal.decreases-loop-due
decreases-loop-due l = 4096 - l.nodes
