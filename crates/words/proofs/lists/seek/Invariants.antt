use Prim.Native.Nat.{ℕ, ◌-◌, ◌%◌}
use mathlib.Core.List.{List}
use lib.ListN.{length}
use Rattle.search.specs.Next.{Book}
use Rattle.words.specs.Held.{starts, key, BookOn}
use Rattle.words.proofs.Ways.{Approaching}
use Rattle.words.proofs.lists.seek.Given as goal

abbrev pub invariant-loop-i : goal.invariant-loop-i
invariant-loop-i l = (book : List ℕ) (P : Book) → BookOn book l.shelf P → Approaching (length P) (key book (starts (length P) l.shelf)) (l.u % 256) l.from l.i

abbrev pub decreases-loop-i : goal.decreases-loop-i
decreases-loop-i l = l.from - l.i
