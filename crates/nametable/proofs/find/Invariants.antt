use Prim.Native.Nat.{ℕ, ◌≤◌}
use mathlib.Core.List.{List}
use Rattle.nametable.specs.Table.{word, Table}
use Rattle.nametable.proofs.Chain.{Searching}
use Rattle.nametable.proofs.find.Given as goal

abbrev pub invariant-loop-e : goal.invariant-loop-e
invariant-loop-e l = (l.e ≤ l.n) × ((names : List (List ℕ)) → Table l.text l.starts l.lens l.heads l.nexts names l.n → Searching names l.n (word l.text l.«at» l.len) l.e)

abbrev pub decreases-loop-e : goal.decreases-loop-e
decreases-loop-e l = l.e
