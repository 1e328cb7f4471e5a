use Prim.Native.Nat.{◌-◌, ◌≤◌}
use mathlib.Core.Path.{◌≡◌}
use lib.ListN.{length, take}
use Rattle.terms.specs.Node.{Expr}
use Rattle.search.specs.Next.{Book, Goal}
use Rattle.words.specs.Columns.{CELLS, WORDS}
use Rattle.words.specs.Held.{BookOn}
use Rattle.matching.specs.TrialLaws.{Free}
use Rattle.trials.specs.Trying.{Fronted}
use Rattle.picking.proofs.Picks.{Passed, Begins}
use Rattle.trials.proofs.first_fit.Given as goal

abbrev pub invariant-loop-i : goal.invariant-loop-i
invariant-loop-i l = (l.i ≤ l.all) × (length l.words ≡ WORDS) × (length l.cells ≡ 8256) × (length l.rows ≡ CELLS) × Free l.cells × (take l.n l.words ≡ take l.n l.initial.words)
    × ((P : Book) (f : Expr) (g a : Goal) → BookOn l.book l.shelf P → Fronted l.initial.words l.n l.m f g a → Passed f P 0 l.i) × Begins l.book l.shelf l.u l.i

abbrev pub decreases-loop-i : goal.decreases-loop-i
decreases-loop-i l = l.all - l.i
