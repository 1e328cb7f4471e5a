-- A state of the search without limits, apart from how its goal and its answer are held.
use Rattle.std.specs.Prelude.{ℕ, ◌≤◌, ◌≡◌, Bool, true, false, List}
use Rattle.std.proofs.Math.Option.{some}
use Rattle.terms.specs.Node.{Expr}
use Rattle.loops.specs.Detect.{State}
use Rattle.search.specs.Next.{Book, Goal}
use Rattle.search.specs.Run.{state_at, Roomy}
use Rattle.search.specs.Answer.{answer_at, Slim}
use Rattle.detector.specs.declared.Detector.{Detector}
use Rattle.states.specs.States.{Kept}

-- the search of q comes within the budget and the room to the goal g with the answer a; the detector has its numbers, and the first k words of `saved` the saved formula
pub record Visits (P : Book) (q : Goal) (budget : ℕ) (saved : List ℕ) (d : Detector) (k : ℕ) (g a : Goal) : Type 0 where
  pub state : State Expr
  pub reached : state_at P q d.step ≡ some state
  pub roomy : Roomy P q d.step
  pub slim : Slim P q d.step
  pub allowed : d.step ≤ budget
  pub since : d.saved ≤ d.step
  pub least : d.length ≡ state.least
  pub from : d.saved ≡ state.from
  pub goal : state.goal ≡ g
  pub answer : answer_at P q d.step ≡ a
  pub keeps : Kept saved k state.saved

-- the first k' words of saved' are the formula f, if that is saved; else nothing is changed
abbrev pub Saves : Expr → List ℕ → ℕ → Bool → List ℕ → ℕ → Type 0
Saves f saved k true saved' k' = Kept saved' k' (some f)
Saves f saved k false saved' k' = (saved' ≡ saved) × (k' ≡ k)
