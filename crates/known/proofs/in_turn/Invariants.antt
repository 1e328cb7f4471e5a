use lib.ListN.{length}
use Prim.Native.Nat.{◌-◌}
use Rattle.known.proofs.Along.{Turning}
use Rattle.known.proofs.in_turn.Given as goal

abbrev pub invariant-loop-at : goal.invariant-loop-at
invariant-loop-at l = Turning l.s l.«at» l.c

abbrev pub decreases-loop-at : goal.decreases-loop-at
decreases-loop-at l = length l.s - l.«at»
