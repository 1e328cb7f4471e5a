use Prim.Native.Nat.{◌≤◌}
use mathlib.Core.Path.{◌≡◌}
use mathlib.Core.List.{[], ◌∷◌}
use lib.ListN.{length, get_or}
use Rattle.words.specs.Word.{arity_of}
use Rattle.words.specs.Columns.{Only, CELLS, UP, PICK, LEFT, RIGHT}
use Rattle.positions.specs.Words.{child}
use Rattle.positions.specs.Steps.{Args, Step}
use Rattle.positions.specs.Tables.{ends, state_in}
use Rattle.joining.proofs.spread.Given as goal

abbrev pub invariant-loop-i : goal.invariant-loop-i
invariant-loop-i l = (l.i ≤ l.k) × (l.k ≡ arity_of (get_or l.words l.x 0)) × (l.c ≡ child (ends l.words l.initial.rows) l.x l.i) × (l.d ≡ child (ends l.words l.initial.rows) l.y l.i) × Step l.words (state_in l.words l.initial.rows l.tail) (λ f. Args f (ends l.words l.initial.rows) l.i l.x l.y) (state_in l.words l.rows l.t) × (length l.rows ≡ CELLS) × Only (UP ∷ PICK ∷ LEFT ∷ RIGHT ∷ []) l.initial.rows l.rows
