use Prim.Native.Nat.{◌≤◌}
use mathlib.Core.Path.{◌≡◌}
use lib.ListN.{take}
use Rattle.words.specs.Word.{nodes}
use Rattle.bounds.specs.Places.{places}
use Rattle.heapgoals.proofs.variables_in.Given as goal

abbrev pub invariant-loop-u : goal.invariant-loop-u
invariant-loop-u l = (l.n ≡ places (nodes (take l.u-index l.words))) × (l.n ≤ l.u-index)
