use lib.ListN.{length}
use Prim.Native.Nat.{◌-◌}
use Rattle.known.proofs.Along.{Calling}
use Rattle.known.proofs.number_of.Given as goal

abbrev pub invariant-loop-at : goal.invariant-loop-at
invariant-loop-at l = Calling l.s l.kind l.name l.«at»

abbrev pub decreases-loop-at : goal.decreases-loop-at
decreases-loop-at l = length l.s - l.«at»
