use Prim.Native.Nat.{◌-◌}
use lib.ListN.{length}
use Rattle.format.specs.Arities.{recalled}
use Rattle.flatness.specs.Marks.{kind_of}
use Rattle.flatness.proofs.Marking.{Counting}
use Rattle.flatness.proofs.counting.count_marked.Given as goal

abbrev pub invariant-loop-at : goal.invariant-loop-at
invariant-loop-at l = Counting (kind_of l.what) l.bytes (recalled l.table) l.count l.«at»

abbrev pub decreases-loop-at : goal.decreases-loop-at
decreases-loop-at l = length l.bytes - l.«at»
