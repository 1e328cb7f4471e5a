-- A step on the heap: the clause that is tried there, how large the next goal and answer are at most, and where their rows stand.
use Rattle.std.specs.Prelude.{ℕ, ◌+◌, ◌-◌, ◌≤◌, ◌≡◌, true, List, ◌∷◌, ◌++◌, map, length, take, drop}
use Rattle.std.proofs.Math.Option.{some}
use Rattle.terms.specs.Node.{Expr}
use Rattle.terms.specs.Subst.{Subst, apply}
use Rattle.search.specs.Next.{Clause, Book, Goal}
use Rattle.search.specs.Step.{next_goal}
use Rattle.search.specs.Room.{nodes, fits}
use Rattle.search.specs.Answer.{small, next_answer}
use Rattle.words.specs.Word.{Fits}
use Rattle.words.specs.Held.{Placed}
use Rattle.applying.specs.Applying.{Onward}
use Rattle.heap.specs.Heap.{rows, Whole, Solved}
use Rattle.heap.specs.Walking.{Ready}
use Rattle.heap.specs.declared.walking.Walk.{Walk}
use Rattle.bounds.specs.Places.{places_all, Seldom}
use Rattle.figures.specs.Figures.{first_of, FigureOf}
use Rattle.heapgoals.specs.Holding.{listed, waiting, answer_rows, used, Holds}
use Rattle.heapgoals.specs.HoldLaws.{Fore, rest_rows}
use Rattle.heapgoals.specs.declared.Standing.{Standing}
use Rattle.attempts.specs.Trying.{laid, Fitted}
use Rattle.treads.specs.declared.sizing.Span.{Span}
use Rattle.treads.specs.declared.sizing.Bounds.{Bounds}
use Rattle.std.specs.declared.option.Option.{Option}
use Rattle.std.specs.declared.option.Option.TheVariants.{None, Some}

-- goal and answer are held, and the clause d stands behind them on the heap, its head equal to the first formula for what is bound now
pub record IsUnderWay (book words before levels : List ℕ) (s : Standing) (c : Span) (heap cells tables : List ℕ) (count : ℕ) (f : Expr) (g a : Goal) (d : Clause) : Type 0 where
  pub held : Holds words before levels s (f ∷ g) a
  pub placed : Placed book c.start c.head c.end c.bodies d
  pub is : heap ≡ laid (used words s) s.base (take (c.end - c.start) (drop c.start book))
  pub figure : FigureOf (take (c.end - c.start) (drop c.start book)) (c.head - c.start) c.bodies c.figure
  pub fitted : Fitted heap before s cells tables count
  pub room : s.base ≤ 8192
  pub short : s.top + 256 ≤ 8448

-- where its body starts
abbrev pub body_at : Standing → Span → ℕ
body_at s c = s.top + (c.head - c.start)

-- the body's rows, and those of the next goal: the body's in the place of the first formula's
abbrev pub body_rows : List ℕ → Standing → Span → Goal
body_rows heap s c = listed heap c.bodies (body_at s c)

abbrev pub next_rows : List ℕ → List ℕ → Standing → Span → Goal
next_rows heap levels s c = body_rows heap s c ++ rest_rows heap levels s

-- what the next goal and answer stand for is within the bounds r, there is room for it, and all variables are below a number
pub record Bounded (heap cells levels : List ℕ) (s : Standing) (c : Span) (r : Bounds) : Type 0 where
  pub goal_nodes : (θ : Subst) → Solved heap cells θ → nodes (map (apply θ) (next_rows heap levels s c)) ≤ r.nodes
  pub answer_nodes : (θ : Subst) → Solved heap cells θ → nodes (map (apply θ) (answer_rows heap s)) ≤ r.found
  pub places : (θ : Subst) → Solved heap cells θ → places_all (map (apply θ) (next_rows heap levels s c ++ answer_rows heap s)) ≤ r.variables
  pub often : (θ : Subst) → Solved heap cells θ → Seldom r.most (map (apply θ) (next_rows heap levels s c ++ answer_rows heap s))
  pub leading : (θ : Subst) → Solved heap cells θ → r.least ≤ length (first_of (map (apply θ) (body_rows heap s c)))
  pub below : Fits (s.base + r.names) heap
  pub few : r.names ≤ 64
  pub goal_room : r.nodes ≤ 4096
  pub answer_room : r.found ≤ 4096
  pub places_room : r.variables ≤ 8192
  pub often_room : r.most ≤ 8192

-- the rows behind the first formula's stand at r
pub record BehindFirst (heap : List ℕ) (s : Standing) (r : ℕ) : Type 0 where
  pub whole : Whole heap (s.due - 1) r
  pub inside : r ≤ length heap
  pub same : listed heap (s.due - 1) r ≡ listed heap (s.due - 1) (s.at + length (rows heap 1 s.at))

-- the k rows at p come before those behind the first formula's
pub record Entered (heap levels : List ℕ) (s : Standing) (p k : ℕ) (levels' : List ℕ) (w : Walk) : Type 0 where
  pub same : listed heap w.due w.at ++ waiting heap levels' w.depth ≡ listed heap k p ++ rest_rows heap levels s
  pub ready : Ready heap levels' w
  pub deep : w.depth ≤ 256
  pub long : length levels' ≡ length levels

-- no step, or the step by the clause d
abbrev pub Went : List ℕ → Standing → Span → List ℕ → List ℕ → List ℕ → ℕ → List ℕ → Option Standing → Type 0
Went levels s c heap cells tables count levels' None = Fore levels levels'
Went levels s c heap cells tables count levels' (Some t) =
    (t.top ≡ length heap) × ((book words before : List ℕ) (f : Expr) (g a : Goal) (d : Clause) → IsUnderWay book words before levels s c heap cells tables count f g a d
    → (h : Goal) × (b : Goal) × Onward f g a d h b × (fits h ≡ true) × (small b ≡ true) × Holds heap cells levels' t h b)

-- what is held is held still; or the next goal and answer are held, on no fewer words, and have room
abbrev pub Treads : Book → Expr → Goal → Goal → List ℕ → List ℕ → List ℕ → Standing → Option Standing → Type 0
Treads P f g a words cells levels s None = Holds words cells levels s (f ∷ g) a
Treads P f g a words cells levels s (Some t) =
    (h : Goal) × (next_goal P (f ∷ g) ≡ some h) × (fits h ≡ true) × (small (next_answer P (f ∷ g) a) ≡ true) × Holds words cells levels t h (next_answer P (f ∷ g) a) × (s.top ≤ t.top)
