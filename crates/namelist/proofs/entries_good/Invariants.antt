use lib.ListN.{length}
use Prim.Native.Nat.{◌-◌}
use Rattle.namelist.proofs.Checking.{Checking}
use Rattle.namelist.proofs.entries_good.Given as goal

abbrev pub invariant-loop-at : goal.invariant-loop-at
invariant-loop-at l = Checking l.s l.«at» l.floor

abbrev pub decreases-loop-at : goal.decreases-loop-at
decreases-loop-at l = length l.s - l.«at»
