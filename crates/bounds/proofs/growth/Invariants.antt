use Prim.Native.Nat.{◌≤◌}
use mathlib.Core.Path.{◌≡◌}
use lib.ListN.{length}
use Rattle.bounds.specs.Sizing.{Grown}
use Rattle.bounds.proofs.growth.Given as goal

abbrev pub invariant-loop-v : goal.invariant-loop-v
invariant-loop-v l = Grown l.heap l.cells l.trail l.v-index l.limit (record { nodes = l.nodes; variables = l.variables }) × (l.nodes ≤ l.limit) × (length l.levels ≡ length l.initial.levels)
