-- A row told apart from a saved formula.
use Rattle.std.specs.Prelude.{ℕ, ◌≤◌, ◌≡◌, List, [], ◌∷◌, ◌++◌, length, take}
use Rattle.terms.specs.Node.{Expr}
use Rattle.terms.specs.Subst.{Subst, apply}
use Rattle.terms.specs.Number.{number}
use Rattle.words.specs.Word.{node, nodes}
use Rattle.heap.specs.Heap.{rows, Solved}
use Rattle.heap.specs.Walking.{ahead, Ready}
use Rattle.heap.specs.declared.walking.Walk.{Walk}

-- however many variables are numbered before it, u does not become v
abbrev pub Parted : ℕ → ℕ → Type 0
Parted u v = (seen : List ℕ) → number seen (node u ∷ []) ≡ node v ∷ [] → ⊥

-- what the row at a position stands for, numbered, is not what is saved
abbrev pub Other : List ℕ → List ℕ → ℕ → List ℕ → ℕ → Type 0
Other heap cells at saved kept = (θ : Subst) → Solved heap cells θ → number [] (apply θ (rows heap 1 at)) ≡ nodes (take kept saved) → ⊥

-- after i nodes of the row the walk w is left
pub record Midway (heap cells levels : List ℕ) (at kept i : ℕ) (w : Walk) : Type 0 where
  pub ready : Ready heap levels w
  pub levels_long : 514 ≤ length levels
  pub high : i ≤ kept
  pub so_far : (θ : Subst) → Solved heap cells θ → (done : Expr) × (done ++ ahead heap levels θ w ≡ apply θ (rows heap 1 at)) × (length done ≡ i)
