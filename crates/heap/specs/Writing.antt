-- What is written: expressions, numbered by first appearance, behind what is there.
use Rattle.std.specs.Prelude.{ℕ, ◌+◌, ◌<◌, ◌≤◌, ◌≡◌, List, ◌++◌, length, take}
use Rattle.terms.specs.Node.{Expr}
use Rattle.terms.specs.Subst.{Subst, apply}
use Rattle.terms.specs.Number.{seen_after, number}
use Rattle.words.specs.Word.{Fits, nodes}
use Rattle.numbering.specs.Naming.{table, back, Table}
use Rattle.heap.specs.Heap.{rows, Whole, Solved}
use Rattle.heap.specs.declared.walking.Walk.{Walk}
use Rattle.heap.specs.declared.writing.Pen.{Pen}
use Rattle.heap.specs.declared.writing.Run.{Run}

-- e is written: `names` are the tables of variables that have a number, and `out` the words
pub record Writes (names out : List ℕ) (pen : Pen) (e : Expr) (names' out' : List ℕ) (pen' : Pen) : Type 0 where
  pub at : pen'.at ≡ pen.at + length e
  pub long : length out' ≡ length out
  pub grows : pen.count ≤ pen'.count
  pub named : (seen : List ℕ) → Table seen (table names) (back names) pen.count → Table (seen_after seen e) (table names') (back names') pen'.count
  pub is : (seen : List ℕ) → Table seen (table names) (back names) pen.count → nodes (take pen'.at out') ≡ nodes (take pen.at out) ++ number seen e
  pub fits : (k : ℕ) → pen'.count ≤ k → Fits k (take pen.at out) → Fits k (take pen'.at out')

-- symbols are written as they are, and then some rows are still due
pub record Copied (heap out : List ℕ) (from : Run) (limit : ℕ) (out' : List ℕ) (r : Run) : Type 0 where
  pub whole : Whole heap r.due r.at
  pub onward : from.pen ≤ r.pen
  pub high : r.pen ≤ limit
  pub done : Expr
  pub same : (θ : Subst) → apply θ (rows heap from.due from.at) ≡ done ++ apply θ (rows heap r.due r.at)
  pub written : (names : List ℕ) (count : ℕ) → Writes names out (record { at = from.pen; count = count }) done names out' (record { at = r.pen; count = count })

-- what a walk with no levels visits is written, or it would pass the limit, or nothing is known
pub record Written (heap cells names out : List ℕ) (pen : Pen) (from : Walk) (limit : ℕ) (names' out' : List ℕ) (r : Pen) : Type 0 where
  pub fits : r.at ≤ limit → (θ : Subst) → Solved heap cells θ → Writes names out pen (apply θ (rows heap from.due from.at)) names' out' r
  pub few : r.at ≤ limit → r.count ≤ r.at
  pub over : r.at ≡ 65535 → (θ : Subst) → Solved heap cells θ → limit < pen.at + length (apply θ (rows heap from.due from.at))
  pub ends : (r.at ≡ 65535 → ⊥) → (r.at ≡ 65534 → ⊥) → r.at ≤ limit
