use Prim.Native.Nat.{◌≤◌}
use mathlib.Core.Path.{◌≡◌}
use mathlib.Core.List.{[], ◌∷◌}
use lib.ListN.{length}
use Rattle.words.specs.Columns.{column, Only, CELLS, UP}
use Rattle.positions.specs.Steps.{Flat}
use Rattle.joining.proofs.flatten.Given as goal

abbrev pub invariant-loop-p : goal.invariant-loop-p
invariant-loop-p l = Flat (column UP l.n l.initial.rows) (column UP l.n l.rows) × (l.p ≤ l.n) × (length l.rows ≡ CELLS) × Only (UP ∷ []) l.initial.rows l.rows
