-- Document 01's "Detection states", sentence by sentence, as a relation that computes nothing. ToldLaws has that the run is this and nothing else.
use Rattle.std.specs.Prelude.{ℕ, suc, ◌-◌, ◌^◌, ◌≤◌, ◌<◌, ◌≡◌, ◌⊎◌, [], ◌∷◌, length}
use Rattle.std.proofs.Math.Option.{none, some}
use Rattle.terms.specs.Node.{Expr}
use Rattle.terms.specs.Rename.{Variant}
use Rattle.loops.specs.Detect.{State}
use Rattle.search.specs.Next.{Book, Goal, NoneMeets, Next}
use Rattle.search.specs.Room.{nodes}
use Rattle.search.specs.Known.{Known}
use Rattle.search.specs.Run.{Closed}

-- "A present, length of G at least l, and leftmost formula equal to A up to renaming"
pub record ComesBack (s : State Expr) : Type 0 where
  pub formula : Expr
  pub present : s.saved ≡ some formula
  pub long : s.least ≤ length s.goal
  pub leftmost : Expr
  pub rest : Goal
  pub front : s.goal ≡ leftmost ∷ rest
  pub same : Variant formula leftmost

-- "The schedule is zero, or a number with exactly one bit set"
abbrev pub OnSchedule : ℕ → Type 0
OnSchedule t = (t ≡ 0) ⊎ ((n : ℕ) × (t ≡ 2 ^ n))

-- "if t is on the schedule or G is shorter than l"
abbrev pub Saving : State Expr → Type 0
Saving s = OnSchedule s.step ⊎ (length s.goal < s.least)

-- "save G's length and leftmost formula; then t grows by one": the state after s, with the goal h
pub data After (s : State Expr) (h : Goal) : State Expr → Type 0 where
  save : (f : Expr) (g : Goal) → Saving s → s.goal ≡ f ∷ g → After s h (record { step = suc s.step; least = length s.goal; saved = some f; from = s.step; goal = h })
  keep : ¬ Saving s → After s h (record { step = suc s.step; least = s.least; saved = s.saved; from = s.from; goal = h })

-- "over 512 formulas or 4,096 nodes"
abbrev pub TooBig : Goal → Type 0
TooBig h = (512 < length h) ⊎ (4096 < nodes h)

module _ (P : Book) (budget : ℕ) where
  -- "At each state, in this order: G empty, 20; ..": the code and the span with which s closes, each test where those before it did not close; 26 stands in the place of 22 where the book does
  -- not know the predicate (document 02, C-12). "Span is t less the
  -- step of the last save for code 21, otherwise 0."
  pub data Closing (s : State Expr) : ℕ → ℕ → Type 0 where
    at_20 : s.goal ≡ [] → Closing s 20 0
    at_21 : ComesBack s → Closing s 21 (s.step - s.from)
    at_22 : (f : Expr) (g : Goal) → s.goal ≡ f ∷ g → ¬ ComesBack s → NoneMeets f P → Known P f → Closing s 22 0
    at_26 : (f : Expr) (g : Goal) → s.goal ≡ f ∷ g → ¬ ComesBack s → NoneMeets f P → ¬ Known P f → Closing s 26 0
    at_23 : (k : ℕ) (h : Goal) → ¬ ComesBack s → Next P s.goal k h → s.step ≡ budget → Closing s 23 0
    at_24 : (k : ℕ) (h : Goal) → ¬ ComesBack s → Next P s.goal k h → ¬ (s.step ≡ budget) → TooBig h → Closing s 24 0

  -- the states of the run of q: "It starts at t = 0, l = 0, no A, G the query", and goes on where no test closes
  pub data Reached (q : Goal) : State Expr → Type 0 where
    first : Reached q (record { step = 0; least = 0; saved = none; from = 0; goal = q })
    then : {s s' : State Expr} (k : ℕ) (h : Goal) → Reached q s → ¬ ComesBack s → Next P s.goal k h → ¬ (s.step ≡ budget) → ¬ TooBig h → After s h s' → Reached q s'

  -- the run of q closes with r: "Steps is t at the closing state"
  pub record Told (q : Goal) (r : Closed) : Type 0 where
    pub state : State Expr
    pub reached : Reached q state
    pub closing : Closing state r.code r.span
    pub steps : r.steps ≡ state.step
    pub goal : r.goal ≡ state.goal
