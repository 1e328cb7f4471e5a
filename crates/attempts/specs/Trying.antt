-- A clause tried on a goal's first formula, where variables are bound already, and how that leaves the heap.
use Rattle.std.specs.Prelude.{ℕ, suc, ◌+◌, ◌<◌, ◌≤◌, ◌≡◌, List, ◌++◌, map, length, take}
use Rattle.terms.specs.Node.{Expr}
use Rattle.terms.specs.Subst.{Subst}
use Rattle.search.specs.Next.{Clause, Book, Meets, clause_at}
use Rattle.words.specs.Word.{Fits}
use Rattle.picking.specs.Laying.{moved}
use Rattle.picking.specs.Picking.{Picked}
use Rattle.heap.specs.Heap.{Whole, bound, Made, Solves, Solved}
use Rattle.matching.specs.Meeting.{Equal}
use Rattle.matching.specs.Binding.{Trailed}
use Rattle.matching.specs.Unifying.{Low, Unseen, More}
use Rattle.trials.specs.Trying.{trail, clause_words}
use Rattle.bounds.specs.Sizing.{Weighed}
use Rattle.heapgoals.specs.declared.Standing.{Standing}
use Rattle.attempts.specs.Facts.{Given}
use Rattle.attempts.specs.declared.Attempt.{Attempt}
use Rattle.attempts.specs.declared.Attempt.TheVariants.{Fits as Fits-now, Clash, Tired}
use Rattle.attempts.specs.declared.Found.{Found}

-- the heap in use, and behind it a clause, whose variables are moved past those that are there
abbrev pub laid : List ℕ → ℕ → List ℕ → List ℕ
laid heap base clause = heap ++ map (moved base) clause

-- what a trial begins with: the goal's first formula at s.at, a clause's head at s.top, and nothing of the clause is bound
pub record IsSetUp (heap cells : List ℕ) (s : Standing) : Type 0 where
  pub made : Made heap cells
  pub solved : (θ : Subst) × Solved heap cells θ
  pub first : Whole heap 1 s.at
  pub head : Whole heap 1 s.top
  pub low : Low heap s.base s.top
  pub inner : (v p : ℕ) → v < s.base → bound cells v ≡ suc p → p < s.top
  pub new : (v : ℕ) → s.base ≤ v → bound cells v ≡ 0
  pub fits : Fits (s.base + 64) heap
  pub room : s.base ≤ 8192
  pub small : s.nodes ≤ 4096
  pub long : length cells ≡ 8256

-- of what is bound more than in `before`, the goal's variables are on the trail, and the others are the clause's
pub record Undoable (before cells tables : List ℕ) (base count : ℕ) : Type 0 where
  pub long : length cells ≡ length before
  pub trailed : Trailed before cells (trail tables) base count
  pub few : count ≤ 8448
  pub new : (v : ℕ) → base ≤ v → bound before v ≡ 0
  pub unseen : (v : ℕ) → base + 64 ≤ v → bound cells v ≡ 0

-- first formula and head are equal for what is bound now
pub record Fitted (heap cells : List ℕ) (s : Standing) (cells' tables : List ℕ) (count : ℕ) : Type 0 where
  pub more : More heap cells s.at s.top cells'
  pub undoable : Undoable cells cells' tables s.base count
  pub unseen : Unseen heap cells cells'

-- they are, or can't be made so, or nothing is known
abbrev pub Attempted : List ℕ → List ℕ → Standing → List ℕ → List ℕ → Attempt → Type 0
Attempted heap cells s cells' tables (Fits-now count size) = Fitted heap cells s cells' tables count × Weighed heap cells' s.base (trail tables) count size
Attempted heap cells s cells' tables Clash = (cells' ≡ cells) × ((τ : Subst) → Solves heap cells τ → ¬ Equal heap τ 1 s.at s.top)
Attempted heap cells s cells' tables Tired = cells' ≡ cells

-- the first words are the heap and the clause behind it, and what is bound makes the two equal
pub record HeldTrial (heap clause words cells : List ℕ) (s : Standing) (cells' tables : List ℕ) (count : ℕ) : Type 0 where
  pub front : take (s.top + length clause) words ≡ laid heap s.base clause
  pub fitted : Fitted (laid heap s.base clause) cells s cells' tables count

-- the head of c and the formula f, tried
abbrev pub Tested : Expr → Clause → List ℕ → List ℕ → List ℕ → List ℕ → Standing → List ℕ → List ℕ → Attempt → Type 0
Tested f c heap clause words cells s cells' tables (Fits-now count size) = Meets f c × HeldTrial heap clause words cells s cells' tables count × Weighed (laid heap s.base clause) cells' s.base (trail tables) count size
Tested f c heap clause words cells s cells' tables Clash = (Meets f c → ⊥) × (cells' ≡ cells)
Tested f c heap clause words cells s cells' tables Tired = cells' ≡ cells

-- the first clause that fits, and its trial; or it is a fact that needs none; or nothing is known
abbrev pub Sought : Book → Expr → List ℕ → List ℕ → List ℕ → List ℕ → List ℕ → Standing → List ℕ → List ℕ → Found → Type 0
Sought P f book shelf heap words cells s cells' tables (Found.Clause i count size) =
    Picked f P 0 i × (i < length P) × HeldTrial heap (clause_words book shelf (length P) i) words cells s cells' tables count × Weighed (laid heap s.base (clause_words book shelf (length P) i)) cells' s.base (trail tables) count size
Sought P f book shelf heap words cells s cells' tables (Found.Given i) = Picked f P 0 i × (i < length P) × Given f (clause_at P i) × (cells' ≡ cells)
Sought P f book shelf heap words cells s cells' tables Found.Unsure = cells' ≡ cells
