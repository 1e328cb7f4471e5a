use Prim.Native.Nat.{◌-◌}
use lib.ListN.{length}
use Rattle.namelist.proofs.Finding.{Sweeping}
use Rattle.namelist.proofs.all_unshared.Given as goal

abbrev pub invariant-loop-at : goal.invariant-loop-at
invariant-loop-at l = Sweeping l.s l.«at»

abbrev pub decreases-loop-at : goal.decreases-loop-at
decreases-loop-at l = length l.s - l.«at»
