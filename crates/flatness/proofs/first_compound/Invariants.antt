use Prim.Native.Nat.{◌-◌}
use Rattle.flatness.proofs.Scanning.{Scan}
use Rattle.flatness.proofs.first_compound.Given as goal

abbrev pub invariant-loop-at : goal.invariant-loop-at
invariant-loop-at l = Scan l.bytes l.end l.«at»

abbrev pub decreases-loop-at : goal.decreases-loop-at
decreases-loop-at l = l.end - l.«at»
