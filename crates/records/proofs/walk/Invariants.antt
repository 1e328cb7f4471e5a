use Prim.Native.Nat.{◌-◌}
use lib.ListN.{length}
use Rattle.format.specs.Arities.{recalled}
use Rattle.format.proofs.Going.{Going}
use Rattle.records.proofs.walk.Given as goal

abbrev pub invariant-loop-at : goal.invariant-loop-at
invariant-loop-at l = Going l.form l.bytes (recalled l.initial.table) l.state l.«at» (recalled l.table)

abbrev pub decreases-loop-at : goal.decreases-loop-at
decreases-loop-at l = length l.bytes - l.«at»
