use Prim.Native.Nat.{◌-◌}
use lib.ListN.{length}
use Rattle.heap.specs.HeapLaws.{Passing}
use Rattle.heap.proofs.past.Given as goal

abbrev pub invariant-loop-due : goal.invariant-loop-due
invariant-loop-due l = Passing l.heap l.p l.«at» l.due

abbrev pub decreases-loop-due : goal.decreases-loop-due
decreases-loop-due l = length l.heap - l.«at»
