use Prim.Native.Nat.{ℕ, ◌≤◌, ◌<◌}
use mathlib.Core.Path.{◌≡◌}
use mathlib.Core.Bool.{false}
use mathlib.Core.List.{List, []}
use lib.ListN.{get_or}
use Rattle.grammar.specs.Names.{same_name}
use Rattle.nametable.specs.Table.{word}
use Rattle.stages.specs.Variables.{Variables}
use Rattle.stages.proofs.variables.find.Given as goal

abbrev pub invariant-loop-i : goal.invariant-loop-i
invariant-loop-i l = (l.i ≤ l.n) × ((names : List (List ℕ)) → Variables l.text l.vars names l.n → (j : ℕ) → j < l.i → same_name (word l.text l.«at» l.len) (get_or names j []) ≡ false)
