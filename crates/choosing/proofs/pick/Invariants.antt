use Prim.Native.Nat.{◌-◌, ◌<◌}
use mathlib.Core.Path.{◌≡◌}
use lib.ListN.{length}
use Rattle.search.specs.Next.{Book}
use Rattle.words.specs.Held.{BookOn}
use Rattle.picking.specs.Picking.{head_at}
use Rattle.picking.proofs.Picks.{Turn}
use Rattle.picking.proofs.Trials.{Round}
use Rattle.choosing.proofs.pick.Given as goal

abbrev pub invariant-loop-j : goal.invariant-loop-j
invariant-loop-j l = (l.i ≡ l.initial.i) × (l.i < l.n) × Turn l.formula l.book l.shelf l.u l.from l.n l.i × ((P : Book) → BookOn l.book l.shelf P → Round l.formula (head_at l.book l.shelf (length P) l.i) l.words l.rows l.t l.k l.c l.d l.j)

abbrev pub decreases-loop-j : goal.decreases-loop-j
decreases-loop-j l = l.k - l.j

abbrev pub invariant-clauses : goal.invariant-clauses
invariant-clauses l = Turn l.formula l.book l.shelf l.u l.from l.n l.i

abbrev pub decreases-clauses : goal.decreases-clauses
decreases-clauses l = l.n - l.i
