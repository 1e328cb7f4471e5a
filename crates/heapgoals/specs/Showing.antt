-- What is held, written out.
use Rattle.std.specs.Prelude.{ℕ, ◌<◌, ◌≤◌, ◌≡◌, List, ◌++◌, length, take}
use Rattle.terms.specs.Node.{Expr}
use Rattle.terms.specs.Subst.{Subst, apply}
use Rattle.words.specs.Word.{Fits, nodes}
use Rattle.heap.specs.Heap.{rows, Whole, Made, Solved}
use Rattle.heap.specs.Walking.{Levels, behind}
use Rattle.heap.specs.Writing.{Writes}
use Rattle.heap.specs.declared.writing.Pen.{Pen}
use Rattle.heapgoals.specs.declared.Standing.{Standing}

-- what k rows stand for
abbrev pub visited : List ℕ → ℕ → ℕ → Subst → Expr
visited heap k p θ = apply θ (rows heap k p)

-- what the goal's rows stand for
abbrev pub goal_part : List ℕ → List ℕ → Standing → Subst → Expr
goal_part heap levels s θ = visited heap s.due s.at θ ++ behind heap levels θ s.depth

-- e is written under the heap's solution, if the limit is not passed
pub record Laid (heap cells names out : List ℕ) (pen : Pen) (e : Subst → Expr) (limit : ℕ) (names' out' : List ℕ) (r : Pen) : Type 0 where
  pub fits : r.at ≤ limit → (θ : Subst) → Solved heap cells θ → Writes names out pen (e θ) names' out' r
  pub few : r.at ≤ limit → r.count ≤ r.at

-- goal and answer stand on the heap
pub record Placed (heap cells levels : List ℕ) (s : Standing) : Type 0 where
  pub made : Made heap cells
  pub solved : (θ : Subst) × Solved heap cells θ
  pub front : Whole heap s.due s.at
  pub back : Levels heap levels s.depth
  pub deep : s.depth ≤ 256
  pub behind : Whole heap s.answers s.answer
  pub cells_long : length cells ≡ 8256
  pub levels_long : length levels ≡ 1028

-- the first r words are the formula f
pub record Lead (f : Expr) (out : List ℕ) (r : ℕ) : Type 0 where
  pub is : nodes (take r out) ≡ f
  pub fits : Fits 4096 (take r out)
  pub long : r ≡ length f
  pub some : 0 < r
