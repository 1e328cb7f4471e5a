use Rattle.std.proofs.Common.{IfSome, ◌<◌}
use Rattle.weighing.specs.declared.Figures as Code
use Prim.Native.Nat.{◌-◌, ◌≤◌}
use mathlib.Core.Path.{◌≡◌}
use lib.ListN.{length}
use Rattle.search.specs.Next.{Book}
use Rattle.words.specs.Held.{BookOn}
use Rattle.weighing.specs.Stuck.{figured}
use Rattle.picking.proofs.Picks.{Begins}
use Rattle.weighing.proofs.Weighs.{Foremost}
use Rattle.weighing.proofs.furthest.Given as goal

abbrev pub invariant-loop-i : goal.invariant-loop-i
invariant-loop-i l = (l.i ≤ l.n) × ((P : Book) → BookOn l.book l.shelf P → l.n ≡ length P) × Foremost l.formula l.book l.shelf l.i (figured l.best) × Begins l.book l.shelf l.u l.i × IfSome l.best (λ (b : Code.Figures). 0 < b.argument)

abbrev pub decreases-loop-i : goal.decreases-loop-i
decreases-loop-i l = l.n - l.i
