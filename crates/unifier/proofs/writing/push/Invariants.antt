use Prim.Native.Nat.{ℕ, ◌+◌, ◌-◌, ◌<◌, ◌≤◌}
use mathlib.Core.Path.{◌≡◌}
use mathlib.Core.List.{[], ◌∷◌}
use lib.ListN.{length, get_or}
use Rattle.words.specs.Columns.{column, Only, CELLS, END, STACK}
use Rattle.positions.specs.Words.{child}
use Rattle.positions.specs.Tables.{stacks}
use Rattle.unifier.proofs.writing.push.Given as goal

abbrev pub invariant-loop-i : goal.invariant-loop-i
invariant-loop-i l = (l.i ≤ l.k) × (length l.rows ≡ CELLS) × (l.c ≡ child (column END l.n l.initial.rows) l.x l.i) × ((j : ℕ) → j < l.i → get_or (stacks l.rows) (l.base + (l.k - 1 - j)) 0 ≡ child (column END l.n l.initial.rows) l.x j) × ((j : ℕ) → j < l.base → get_or (stacks l.rows) j 0 ≡ get_or (stacks l.initial.rows) j 0) × Only (STACK ∷ []) l.initial.rows l.rows
