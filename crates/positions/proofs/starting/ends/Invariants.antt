use Prim.Native.Nat.{ℕ, ◌<◌, ◌≤◌}
use mathlib.Core.Path.{◌≡◌}
use mathlib.Core.List.{[], ◌∷◌}
use lib.ListN.{length}
use Rattle.words.specs.Columns.{Only, CELLS, END}
use Rattle.positions.specs.Words.{Ended}
use Rattle.positions.specs.Tables.{ends}
use Rattle.positions.proofs.starting.ends.Given as goal

abbrev pub invariant-loop-p : goal.invariant-loop-p
invariant-loop-p l = (l.p ≤ length l.words) × (length l.rows ≡ CELLS) × ((q : ℕ) → l.p ≤ q → q < length l.words → Ended l.words (ends l.words l.rows) q) × Only (END ∷ []) l.initial.rows l.rows
