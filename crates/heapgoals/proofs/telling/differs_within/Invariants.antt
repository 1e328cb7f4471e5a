use mathlib.Core.Path.{◌≡◌}
use lib.ListN.{length}
use Rattle.heapgoals.specs.Telling.{Midway}
use Rattle.heapgoals.proofs.telling.differs_within.Given as goal

abbrev pub invariant-loop-v : goal.invariant-loop-v
invariant-loop-v l = Midway l.heap l.cells l.levels l.«at» (length l.saved) l.v-index l.w × (length l.levels ≡ length l.initial.levels)
