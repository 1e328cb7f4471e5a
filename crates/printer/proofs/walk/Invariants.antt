use Rattle.printer.proofs.Walks.{Walking}
use lib.ListN.{length}
use Prim.Native.Nat.{◌-◌}
use Rattle.printer.proofs.walk.Given as goal

abbrev pub invariant-loop-i : goal.invariant-loop-i
invariant-loop-i l = Walking l.initial.area l.area l.names l.image l.stack l.pen l.i

abbrev pub decreases-loop-i : goal.decreases-loop-i
decreases-loop-i l = length l.image - l.i
