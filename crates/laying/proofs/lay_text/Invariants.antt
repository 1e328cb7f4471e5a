use lib.ListN.{length}
use Prim.Native.Nat.{◌-◌}
use Rattle.laying.proofs.Going.{Going}
use Rattle.laying.proofs.lay_text.Given as goal

abbrev pub invariant-loop-at : goal.invariant-loop-at
invariant-loop-at l = Going l.text l.names l.table l.out l.opens l.known l.d l.«at»

abbrev pub decreases-loop-at : goal.decreases-loop-at
decreases-loop-at l = length l.text - l.«at»
