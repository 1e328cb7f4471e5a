use Prim.Native.Nat.{◌-◌, ◌≤◌}
use mathlib.Core.Path.{◌≡◌}
use mathlib.Core.List.{[], ◌∷◌}
use lib.ListN.{length}
use Rattle.words.specs.Columns.{Only, CELLS, UP, PICK, FIRST}
use Rattle.positions.specs.Starting.{Slots}
use Rattle.positions.specs.Tables.{ups, picks, firsts}
use Rattle.positions.proofs.starting.start.Given as goal

abbrev pub invariant-loop-p : goal.invariant-loop-p
invariant-loop-p l = (l.p ≤ length l.words) × (length l.rows ≡ CELLS) × Slots l.words (ups l.words l.rows) (picks l.words l.rows) (firsts l.rows) l.p × Only (UP ∷ PICK ∷ FIRST ∷ []) l.initial.rows l.rows
