use Prim.Native.Nat.{◌-◌}
use lib.ListN.{length}
use Rattle.namelist.proofs.Finding.{Finding}
use Rattle.namelist.proofs.find.Given as goal

abbrev pub invariant-loop-at : goal.invariant-loop-at
invariant-loop-at l = Finding l.s l.kind l.wanted l.«at»

abbrev pub decreases-loop-at : goal.decreases-loop-at
decreases-loop-at l = length l.s - l.«at»
