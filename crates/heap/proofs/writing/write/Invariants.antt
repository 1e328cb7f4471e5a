use Prim.Native.Nat.{◌-◌}
use mathlib.Core.Path.{◌≡◌}
use lib.ListN.{length}
use Rattle.numbering.specs.Naming.{spare}
use Rattle.heap.specs.PartLaws.{Partway}
use Rattle.heap.proofs.writing.write.Given as goal

abbrev pub invariant-loop-w : goal.invariant-loop-w
invariant-loop-w l =
    Partway l.heap l.cells l.initial.rows l.initial.out (record { at = l.initial.«at»; count = l.initial.count }) l.initial.w l.limit l.levels l.rows l.out l.«at» l.count l.w × (length l.levels ≡ length l.initial.levels) × (length l.rows ≡ length l.initial.rows) × (length l.out ≡ length l.initial.out)
    × (spare l.rows ≡ spare l.initial.rows)

abbrev pub decreases-loop-w : goal.decreases-loop-w
decreases-loop-w l = l.limit - l.«at»
