use Prim.Native.Nat.{◌-◌}
use mathlib.Core.List.{[]}
use Rattle.heap.specs.Walking.{flat}
use Rattle.bounds.specs.CountLaws.{Counting}
use Rattle.bounds.proofs.plain_size.Given as goal

abbrev pub invariant-loop-due : goal.invariant-loop-due
invariant-loop-due l = Counting l.heap l.cells l.p 1 l.limit [] l.nodes l.variables (flat l.«at» l.due)

abbrev pub decreases-loop-due : goal.decreases-loop-due
decreases-loop-due l = l.limit - l.nodes
