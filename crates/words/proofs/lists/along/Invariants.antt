use Prim.Native.Nat.{ℕ, ◌-◌, ◌%◌, ◌≤◌}
use lib.ListN.{length}
use Rattle.search.specs.Next.{Book}
use Rattle.words.specs.Held.{BookOn}
use Rattle.words.specs.Lists.{OnList}
use Rattle.words.proofs.Ways.{Going}
use Rattle.words.proofs.lists.along.Given as goal

abbrev pub invariant-loop-i : goal.invariant-loop-i
invariant-loop-i l = (P : Book) (from : ℕ) → BookOn l.book l.shelf P → from ≤ length P → OnList l.book l.shelf P (l.u % 256) from l.at → Going l.book l.shelf P l.u from l.i

abbrev pub decreases-loop-i : goal.decreases-loop-i
decreases-loop-i l = l.all - l.i
