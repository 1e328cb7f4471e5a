-- A trial that binds more on a heap where variables are bound already: what it binds, at the variables that were free before it, is a most general unifier of what the two rows stood for; and
-- what it makes of them it makes of every row.
use Rattle.std.specs.Prelude.{ℕ, zero, suc, List}
use Rattle.terms.specs.Node.{Expr}
use Rattle.terms.specs.Subst.{Subst, itself}
use Rattle.heap.specs.Heap.{bound, Made, Solved}
use Rattle.matching.specs.Unifying.{More}

module _ (heap cells cells' : List ℕ) (made : Made heap cells) {θ : Subst} (s : Solved heap cells θ) (p q : ℕ) (more : More heap cells p q cells') {θ' : Subst} (s' : Solved heap cells' θ') where
  abbrev pub chosen : ℕ → ℕ → Expr
  chosen zero v = θ' v
  chosen (suc r) v = itself v

  -- what the trial binds: nothing of those that were bound
  abbrev pub newly : Subst
  newly v = chosen (bound cells v) v
