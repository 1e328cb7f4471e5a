use Prim.Native.Nat.{ℕ, ◌-◌}
use mathlib.Core.List.{◌∷◌}
use lib.ListN.{length}
use Rattle.terms.specs.Node.{Expr}
use Rattle.search.specs.Next.{Goal}
use Rattle.words.specs.Held.{GoalIn}
use Rattle.picking.proofs.Extents.{Ahead}
use Rattle.picking.proofs.extent.Given as goal

abbrev pub invariant-loop-due : goal.invariant-loop-due
invariant-loop-due l = (f : Expr) (g : Goal) (n : ℕ) → GoalIn l.goal n (f ∷ g) → Ahead l.goal f g l.i l.due

abbrev pub decreases-loop-due : goal.decreases-loop-due
decreases-loop-due l = length l.goal - l.i
