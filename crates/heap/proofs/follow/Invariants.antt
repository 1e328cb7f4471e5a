use Rattle.heap.specs.Following.{SameRow, rank}
use Rattle.heap.proofs.follow.Given as goal

abbrev pub invariant-loop-p : goal.invariant-loop-p
invariant-loop-p l = SameRow l.heap l.cells l.p l.«at»

abbrev pub decreases-loop-p : goal.decreases-loop-p
decreases-loop-p l = rank l.heap l.«at»
