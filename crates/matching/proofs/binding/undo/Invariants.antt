use Prim.Native.Nat.{ℕ}
use mathlib.Core.Path.{◌≡◌}
use mathlib.Core.List.{List}
use lib.ListN.{length}
use Rattle.matching.specs.Binding.{Trailed, Undone}
use Rattle.heap.specs.Heap.{bound}
use Rattle.matching.proofs.binding.undo.Given as goal

abbrev pub invariant-loop-v : goal.invariant-loop-v
invariant-loop-v l = (length l.cells ≡ length l.initial.cells) × ((before : List ℕ) (base : ℕ) → Trailed before l.initial.cells l.trail base l.count → Undone before l.cells l.trail base l.v-index l.count) × ((v : ℕ) → bound l.initial.cells v ≡ 0 → bound l.cells v ≡ 0)
