-- A head made equal to a formula of the goal, and what the goal's variables that are bound for it stand for.
use Rattle.std.specs.Prelude.{ℕ, ◌+◌, ◌-◌, ◌<◌, ◌≤◌, ◌≡◌, List, length, Option, Some, None, IfSome}
use Rattle.terms.specs.Subst.{Subst, apply}
use Rattle.heap.specs.Heap.{rows, Solved}
use Rattle.bounds.specs.Places.{places, times}
use Rattle.bounds.specs.Sizing.{Weighed}
use Rattle.bounds.specs.declared.Weight.{Weight}
use Rattle.matching.specs.Occurring.{Apart}
use Rattle.matching.specs.Unifying.{Bound, Stepped, Unified}
use Rattle.matching.specs.declared.pairs.Pairs.{Pairs}
use Rattle.matching.specs.declared.unifying.Trial.{Trial}
use Rattle.matching.specs.declared.unifying.Step.TheVariants as Step
use Rattle.matching.specs.declared.unifying.Tried.{Tried}

-- a variable that is bound to the row at q weighs so much at most: by the nodes and the places of variables of what the row stands for, one of each at least, and by how often any one is there
pub record Heavy (heap cells : List ℕ) (base q : ℕ) (r : Weight) : Type 0 where
  pub one : 1 ≤ r.variables
  pub low : r.nodes ≤ 4096
  pub few : r.variables ≤ r.nodes
  pub long : (θ : Subst) → Solved heap cells θ → length (apply θ (rows heap 1 q)) ≤ r.nodes
  pub places : (θ : Subst) → Solved heap cells θ → places (apply θ (rows heap 1 q)) ≤ r.variables
  pub old : (θ : Subst) → Solved heap cells θ → (y : ℕ) → y < base → 1 + times y (apply θ (rows heap 1 q)) ≤ r.times
  pub new : (θ : Subst) → Solved heap cells θ → (y : ℕ) → base ≤ y → times y (apply θ (rows heap 1 q)) ≤ r.times
  pub room : r.times ≤ 553648129

-- v is on the row at q, and on the trail; or all is as before
abbrev pub Hangs : List ℕ → List ℕ → List ℕ → Trial → ℕ → ℕ → List ℕ → List ℕ → Option (Option Weight) → Type 0
Hangs heap cells trail t v q cells' trail' (Some size) = Bound heap cells trail t v q cells' trail' (t.count + 1) × Apart heap cells v q × IfSome size (Heavy heap cells t.base q)
Hangs heap cells trail t v q cells' trail' None = (cells' ≡ cells) × (trail' ≡ trail)

-- the one pair that is left is equal now, and what is bound for it is weighed; or all is as before
abbrev pub HangsLast : List ℕ → List ℕ → List ℕ → Trial → Pairs → List ℕ → List ℕ → Option (Option Weight) → Type 0
HangsLast heap cells trail t x cells' trail' (Some size) =
    (x.due ≡ 1) × (x.depth ≡ 0) × (0 < t.fuel) × Stepped heap cells trail t x.p x.q cells' trail' (Step.Done (t.count + 1) (t.fuel - 1)) × Weighed heap cells' t.base trail' (t.count + 1) size
HangsLast heap cells trail t x cells' trail' None = (cells' ≡ cells) × (trail' ≡ trail)

-- as two rows are unified, and what is bound is weighed
abbrev pub Fitting : List ℕ → List ℕ → List ℕ → Trial → ℕ → ℕ → List ℕ → List ℕ → Tried (Option Weight) → Type 0
Fitting heap cells trail t p q cells' trail' (Tried.Fits count size) = Unified heap cells trail t p q cells' trail' (Tried.Fits count 0) × Weighed heap cells' t.base trail' count size
Fitting heap cells trail t p q cells' trail' (Tried.Clash count) = Unified heap cells trail t p q cells' trail' (Tried.Clash count)
Fitting heap cells trail t p q cells' trail' (Tried.Tired count) = Unified heap cells trail t p q cells' trail' (Tried.Tired count)
