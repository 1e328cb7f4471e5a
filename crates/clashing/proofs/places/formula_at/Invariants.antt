use lib.ListN.{length}
use Prim.Native.Nat.{◌-◌, ◌≤◌}
use Rattle.clashing.proofs.Seeking.{Seeking}
use Rattle.clashing.proofs.places.formula_at.Given as goal

abbrev pub invariant-loop-at : goal.invariant-loop-at
invariant-loop-at l = Seeking l.text l.k l.outside l.depth l.«at» × (length l.text ≤ 65536)

abbrev pub decreases-loop-at : goal.decreases-loop-at
decreases-loop-at l = length l.text - l.«at»
