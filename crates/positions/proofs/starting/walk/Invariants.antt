use Prim.Native.Nat.{◌-◌, ◌≤◌}
use mathlib.Core.Path.{◌≡◌}
use Rattle.words.specs.Columns.{column, END}
use Rattle.positions.specs.Words.{walk_of}
use Rattle.positions.proofs.starting.walk.Given as goal

abbrev pub invariant-loop-i : goal.invariant-loop-i
invariant-loop-i l = (l.i ≤ l.k) × (l.c ≡ walk_of (column END l.n l.rows) l.i l.from)
