use lib.ListN.{length}
use Prim.Native.Nat.{◌-◌}
use Rattle.namelist.proofs.Walking.{Seeking}
use Rattle.namelist.proofs.unshared.Given as goal

abbrev pub invariant-loop-i : goal.invariant-loop-i
invariant-loop-i l = Seeking l.s l.«at» l.i

abbrev pub decreases-loop-i : goal.decreases-loop-i
decreases-loop-i l = length l.s - l.i
