use Prim.Native.Nat.{◌-◌, ◌≤◌}
use mathlib.Core.Path.{◌≡◌}
use lib.ListN.{length}
use Rattle.words.specs.Columns.{CELLS}
use Rattle.numbering.specs.Naming.{table, back}
use Rattle.numbering.proofs.Names.{Upto}
use Rattle.numbering.proofs.renumber.Given as goal

abbrev pub invariant-loop-i : goal.invariant-loop-i
invariant-loop-i l = (l.i ≤ l.n) × (length l.words ≡ length l.initial.words) × (length l.rows ≡ CELLS) × (l.n ≤ length l.initial.words) × Upto l.initial.words l.words (table l.rows) (back l.rows) l.i l.count
