use Prim.Native.Nat.{ℕ, ◌-◌, ◌≤◌}
use mathlib.Core.Path.{◌≡◌}
use mathlib.Core.List.{List, [], ◌∷◌}
use lib.ListN.{length}
use Rattle.words.specs.Columns.{Only, CELLS, UP, PICK, LEFT, RIGHT}
use Rattle.positions.specs.Tables.{ends, state_in}
use Rattle.joining.proofs.Progress.{Progress}
use Rattle.joining.proofs.close.Given as goal

abbrev pub invariant-loop-head : goal.invariant-loop-head
invariant-loop-head l = (l.head ≤ l.tail) × ((e u p : List ℕ) → e ≡ ends l.words l.initial.rows → Progress l.words e u p l.x l.y 0 (state_in l.words l.initial.rows l.initial.tail) → Progress l.words e u p l.x l.y l.head (state_in l.words l.rows l.tail)) × (length l.rows ≡ CELLS) × Only (UP ∷ PICK ∷ LEFT ∷ RIGHT ∷ []) l.initial.rows l.rows

abbrev pub decreases-loop-head : goal.decreases-loop-head
decreases-loop-head l = length l.words - l.head
