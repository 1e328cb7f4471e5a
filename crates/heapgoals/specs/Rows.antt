-- A row that is written, as it comes to the heap, and cells that are bound to nothing again.
use Rattle.std.specs.Prelude.{ℕ, ◌<◌, ◌≤◌, ◌≡◌, ◌⊎◌, List, ◌∷◌, ◌++◌, length, take}
use Rattle.terms.specs.Node.{Expr}
use Rattle.terms.specs.Number.{Numbered}
use Rattle.search.specs.Next.{Goal}
use Rattle.words.specs.Held.{RowIn}
use Rattle.heap.specs.Heap.{bound}
use Rattle.heapgoals.specs.declared.Sides.{Sides}

-- the row holds the goal of f and g with its answer a, numbered as one, and x says how
pub record Sided (row : List ℕ) (x : Sides) (f : Expr) (g a : Goal) : Type 0 where
  pub held : RowIn row x.words x.formulas (f ∷ g) a
  pub first : x.first ≡ length f
  pub answers : x.answers ≡ length a
  pub numbered : Numbered ((f ∷ g) ++ a)

-- the heap begins with the row, no variable is bound, and there are levels
pub record Clean (row words cells levels : List ℕ) : Type 0 where
  pub front : take (length row) words ≡ row
  pub within : length row ≤ length words
  pub free : (v : ℕ) → bound cells v ≡ 0
  pub cells_long : length cells ≡ 8256
  pub levels_long : length levels ≡ 1028

-- the variables from one number up to another are not bound in z, and the others as they were
pub record Cleared (cells : List ℕ) (from to : ℕ) (z : List ℕ) : Type 0 where
  pub long : length z ≡ length cells
  pub inside : (v : ℕ) → from ≤ v → v < to → bound z v ≡ 0
  pub outside : (v : ℕ) → (v < from) ⊎ (to ≤ v) → bound z v ≡ bound cells v
