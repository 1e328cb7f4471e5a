-- A goal with its answer on the heap: they are what its rows stand for, numbered as one by first appearance (document 02, C-11).
use Rattle.std.specs.Prelude.{ℕ, zero, suc, ◌+◌, ◌≤◌, ◌≡◌, List, [], ◌∷◌, ◌++◌, map, length, take}
use Rattle.terms.specs.Row.{Row, Formulas, Atoms}
use Rattle.terms.specs.Subst.{Subst, apply}
use Rattle.terms.specs.Number.{number_all}
use Rattle.search.specs.Next.{Goal}
use Rattle.search.specs.Room.{nodes}
use Rattle.words.specs.Word.{Fits, nodes as heap-nodes}
use Rattle.heap.specs.Heap.{rows, Whole, bound, Made, Solved}
use Rattle.heap.specs.Walking.{level_at, level_due, Levels}
use Rattle.bounds.specs.Places.{places_all, Seldom}
use Rattle.heapgoals.specs.declared.Standing.{Standing}

-- the k rows from p on, each by itself
abbrev pub listed : List ℕ → ℕ → ℕ → Goal
listed heap zero p = []
listed heap (suc k) p = rows heap 1 p ∷ listed heap k (p + length (rows heap 1 p))

-- those of n levels, the last first
abbrev pub waiting : List ℕ → List ℕ → ℕ → Goal
waiting heap levels zero = []
waiting heap levels (suc n) = listed heap (level_due levels n) (level_at levels n) ++ waiting heap levels n

abbrev pub goal_rows : List ℕ → List ℕ → Standing → Goal
goal_rows heap levels s = listed heap s.due s.at ++ waiting heap levels s.depth

abbrev pub answer_rows : List ℕ → Standing → Goal
answer_rows heap s = listed heap s.answers s.answer

-- what is in use of the heap
abbrev pub used : List ℕ → Standing → List ℕ
used words s = take s.top words

-- the first formula of a goal has so many nodes at least
abbrev pub Leading : ℕ → Goal → Type 0
Leading n [] = n ≡ n
Leading n (f ∷ g) = n ≤ length f

-- the goal g and the answer a are held
pub record Holds (words cells levels : List ℕ) (s : Standing) (g a : Goal) : Type 0 where
  pub inside : s.top ≤ length words
  pub cells_long : length cells ≡ 8256
  pub levels_long : length levels ≡ 1028
  pub made : Made (used words s) cells
  pub all : (k : ℕ) × Row k (heap-nodes (used words s))
  pub low : Fits s.base (used words s)
  pub new : (v : ℕ) → s.base ≤ v → bound cells v ≡ 0
  pub base_room : s.base ≤ 8256
  pub meaning : Subst
  pub solved : Solved (used words s) cells meaning
  pub front : Whole (used words s) s.due s.at
  pub back : Levels (used words s) levels s.depth
  pub ended : s.due ≡ 0 → s.depth ≡ 0
  pub deep : s.depth ≤ 256
  pub behind : Whole (used words s) s.answers s.answer
  pub is : number_all [] (map (apply meaning) (goal_rows (used words s) levels s ++ answer_rows (used words s) s)) ≡ g ++ a
  pub formulas : Formulas (g ++ a)
  pub atoms : Atoms (g ++ a)
  pub many : s.formulas ≡ length g
  pub goal_many : length (goal_rows (used words s) levels s) ≡ length g
  pub answer_many : s.answers ≡ length a
  pub few : s.formulas ≤ 512
  pub answer_few : s.answers ≤ 512
  pub goal_nodes : nodes g ≤ s.nodes
  pub answer_nodes : nodes a ≤ s.found
  pub goal_room : s.nodes ≤ 4096
  pub answer_room : s.found ≤ 4096
  pub variables : places_all (g ++ a) ≤ s.variables
  pub variables_room : s.variables ≤ 8192
  pub often : Seldom s.most (g ++ a)
  pub often_room : s.most ≤ 8192
  pub leading : Leading s.least g
