use Rattle.printer.proofs.Walks.{Sweeping}
use lib.ListN.{length}
use Prim.Native.Nat.{◌-◌}
use Rattle.printer.proofs.naming.all_named.Given as goal

abbrev pub invariant-loop-i : goal.invariant-loop-i
invariant-loop-i l = Sweeping l.names l.image l.i

abbrev pub decreases-loop-i : goal.decreases-loop-i
decreases-loop-i l = length l.image - l.i
