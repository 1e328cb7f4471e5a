use lib.ListN.{length}
use Prim.Native.Nat.{◌-◌}
use Rattle.relisting.proofs.Skipping.{Skipping}
use Rattle.relisting.proofs.skip.Given as goal

abbrev pub invariant-loop-at : goal.invariant-loop-at
invariant-loop-at l = Skipping l.s l.from l.kind l.«at»

abbrev pub decreases-loop-at : goal.decreases-loop-at
decreases-loop-at l = length l.s - l.«at»
