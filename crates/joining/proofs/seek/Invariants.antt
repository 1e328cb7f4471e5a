use Prim.Native.Nat.{◌<◌}
use mathlib.Core.Path.{◌≡◌}
use mathlib.Core.List.{[], ◌∷◌}
use lib.ListN.{length, get_or}
use Rattle.words.specs.Columns.{column, Only, CELLS, UP}
use Rattle.positions.specs.Classes.{root}
use Rattle.positions.specs.Steps.{Flat}
use Rattle.joining.proofs.seek.Given as goal

abbrev pub invariant-loop-q : goal.invariant-loop-q
invariant-loop-q l = Flat (column UP l.n l.initial.rows) (column UP l.n l.rows) × (l.p < l.n) × (l.q ≡ get_or (column UP l.n l.rows) l.p 0) × (root (column UP l.n l.initial.rows) l.p ≡ root (column UP l.n l.initial.rows) l.start) × (length l.rows ≡ CELLS) × Only (UP ∷ []) l.initial.rows l.rows

abbrev pub decreases-loop-q : goal.decreases-loop-q
decreases-loop-q l = l.p
