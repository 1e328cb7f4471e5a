-- What is held in storage of the states of the search without limits (loops, Detect; search, Run), and how they close.
use Rattle.std.specs.Prelude.{ℕ, ◌+◌, ◌≤◌, ◌<◌, ◌≡◌, Bool, true, false, List, ◌∷◌, ◌++◌, length, take, drop}
use Rattle.std.proofs.Math.Option.{Option, none, some}
use Rattle.terms.specs.Node.{Expr}
use Rattle.loops.specs.Detect.{State, Detected}
use Rattle.search.specs.Next.{Book, Goal}
use Rattle.search.specs.Furthest.{figures}
use Rattle.search.specs.Run.{state_at, Roomy}
use Rattle.search.specs.Answer.{answer_at, answered, Slim}
use Rattle.words.specs.Word.{Fits, nodes}
use Rattle.words.specs.Held.{FormulasIn, GoalIn}
use Rattle.detector.specs.declared.Detector.{Detector}
use Rattle.states.specs.declared.Place.{Place}
use Rattle.states.specs.declared.Ended.{Ended}
use Rattle.std.specs.declared.result.Result.{Result}
use Rattle.std.specs.declared.result.Result.TheVariants.{Ok, Err}

-- whether two lists of words are equal
abbrev pub Equal : List ℕ → List ℕ → Bool → Type 0
Equal a b true = a ≡ b
Equal a b false = a ≡ b → ⊥

-- the first r words of z are the goal's leftmost formula, if that is saved; else nothing is changed
abbrev pub Keeps : List ℕ → ℕ → List ℕ → ℕ → Bool → List ℕ → ℕ → Type 0
Keeps goal front saved kept true z r = (z ≡ take front goal ++ drop front saved) × (r ≡ front)
Keeps goal front saved kept false z r = (z ≡ saved) × (r ≡ kept)

-- the first k words hold the saved formula; none: k is 0
abbrev pub Kept : List ℕ → ℕ → Option Expr → Type 0
Kept w k none = k ≡ 0
Kept w k (some f) = (nodes (take k w) ≡ f) × Fits 4096 (take k w) × (0 < k) × (k ≤ length w)

-- the state of the search of q is reached within the budget and the room, and is held: its numbers by the detector, its goal, of m formulas, by the first n
-- words of `goal`, its answer by the w words behind them, its saved formula by the first k words of `saved`
pub record Reached (P : Book) (q : Goal) (budget : ℕ) (goal saved : List ℕ) (d : Detector) (n m w k : ℕ) : Type 0 where
  pub state : State Expr
  pub reached : state_at P q d.step ≡ some state
  pub roomy : Roomy P q d.step
  pub slim : Slim P q d.step
  pub allowed : d.step ≤ budget
  pub since : d.saved ≤ d.step
  pub least : d.length ≡ state.least
  pub from : d.saved ≡ state.from
  pub holds : GoalIn (take n goal) m state.goal
  pub within : n ≤ length goal
  pub answer : FormulasIn 8192 (take w (drop n goal)) (length (answer_at P q d.step)) (answer_at P q d.step)
  pub answer_within : n + w ≤ length goal
  pub keeps : Kept saved k state.saved

abbrev pub Somewhere : List ℕ → List ℕ → Detector → ℕ → ℕ → ℕ → ℕ → Type 0
Somewhere goal saved d n m w k = (P : Book) × (q : Goal) × (budget : ℕ) × Reached P q budget goal saved d n m w k

-- the run closes as e says, and the first words of `goal` hold its last goal, and those behind them its answer
pub record Ends (P : Book) (q : Goal) (budget : ℕ) (goal : List ℕ) (e : Ended) : Type 0 where
  pub last : Goal
  pub said : Goal
  pub runs : answered P budget q ≡ record { code = e.code; steps = e.steps; span = e.span; goal = last; answer = said }
  pub why : figures P e.code last ≡ record { clause = e.clause; argument = e.argument }
  pub holds : GoalIn (take e.words goal) e.formulas last
  pub within : e.words ≤ length goal
  pub answer : FormulasIn 8192 (take e.answer (drop e.words goal)) (length said) said
  pub answer_within : e.words + e.answer ≤ length goal

abbrev pub closed : ℕ → Detector → ℕ → ℕ → ℕ → ℕ → Ended
closed code d span n m w = record { code = code; steps = d.step; span = span; words = n; formulas = m; answer = w; clause = 0; argument = 0 }

-- the state at a place is neither solved nor a loop
pub record Opens (P : Book) (q : Goal) (budget : ℕ) (goal saved : List ℕ) (p : Place) : Type 0 where
  pub here : Reached P q budget goal saved p.detector p.words p.formulas p.answer p.kept
  pub formula : Expr
  pub rest : Goal
  pub is : here.state.goal ≡ formula ∷ rest
  pub front : p.front ≡ length formula
  pub new : ¬ Detected here.state

abbrev pub Turned : Book → Goal → ℕ → List ℕ → List ℕ → Result Place Ended → Type 0
Turned P q budget goal saved (Ok p) = Opens P q budget goal saved p
Turned P q budget goal saved (Err e) = Ends P q budget goal e

-- the state at a place is stuck, and k is the clause that got furthest
abbrev pub stuck_at : Place → ℕ → ℕ → Ended
stuck_at p k a = record { code = 22; steps = p.detector.step; span = 0; words = p.words; formulas = p.formulas; answer = p.answer; clause = k; argument = a }

-- an open turn is at step t
abbrev pub Onward : ℕ → Result Place Ended → Type 0
Onward t (Ok p) = p.detector.step ≡ t
Onward t (Err e) = Unit {0}

-- a turn's goal has n words, and its answer w
abbrev pub OfSize : ℕ → ℕ → Result Place Ended → Type 0
OfSize n w (Ok p) = (p.words ≡ n) × (p.answer ≡ w)
OfSize n w (Err e) = (e.words ≡ n) × (e.answer ≡ w)

-- the state that is held is solved, a loop, or open
pub record Looked (goal saved : List ℕ) (d : Detector) (n m w k : ℕ) (r : Result Place Ended) : Type 0 where
  pub turn : (P : Book) (q : Goal) (budget : ℕ) → Reached P q budget goal saved d n m w k → Turned P q budget goal saved r
  pub step : Onward d.step r
  pub sized : OfSize n w r
