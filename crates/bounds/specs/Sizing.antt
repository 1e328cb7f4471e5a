-- How large what rows stand for is, and what a variable of a trail stands for at most.
use Rattle.std.specs.Prelude.{ℕ, ◌+◌, ◌<◌, ◌≤◌, ◌≡◌, List, length, get_or, Option, IfSome}
use Rattle.terms.specs.Subst.{Subst, apply}
use Rattle.heap.specs.Heap.{rows, bound, Solved}
use Rattle.bounds.specs.Places.{places, times, total}
use Rattle.bounds.specs.declared.Size.{Size}
use Rattle.bounds.specs.declared.Weight.{Weight}

-- what `due` rows at a position stand for has just so many nodes and places of variables, within the limit
pub record Sized (heap cells : List ℕ) (at due limit : ℕ) (r : Size) : Type 0 where
  pub few : r.variables ≤ r.nodes
  pub low : r.nodes ≤ limit
  pub long : (θ : Subst) → Solved heap cells θ → r.nodes ≡ length (apply θ (rows heap due at))
  pub places : (θ : Subst) → Solved heap cells θ → r.variables ≡ places (apply θ (rows heap due at))

-- the first variables of a trail are bound
pub record Bound (cells trail : List ℕ) (count : ℕ) : Type 0 where
  pub each : (i : ℕ) → i < count → bound cells (get_or trail i 0) ≡ 0 → ⊥

-- and each of them stands for at most so many nodes and places of variables
pub record Grown (heap cells trail : List ℕ) (count limit : ℕ) (r : Size) : Type 0 where
  pub some : 1 ≤ r.nodes
  pub few : r.variables ≤ r.nodes
  pub low : r.nodes ≤ limit
  pub long : (i : ℕ) → i < count → (θ : Subst) → Solved heap cells θ → length (θ (get_or trail i 0)) ≤ r.nodes
  pub places : (i : ℕ) → i < count → (θ : Subst) → Solved heap cells θ → places (θ (get_or trail i 0)) ≤ r.variables

-- how often y is in what they stand for, all in all
abbrev pub comes : Subst → List ℕ → ℕ → ℕ → ℕ
comes θ trail count y = total (λ i. times y (θ (get_or trail i 0))) count

-- of a weight, what each of them stands for
abbrev pub plain : Weight → Size
plain r = record { nodes = r.nodes; variables = r.variables }

-- The first variables of a trail weigh so much at most. Where they were once each, a variable below the base is as often as in what they stand for, and once more, where it was itself; one that is not below it was nowhere.
-- There is room for one and, for each of the 8,448 variables that a trail may have, 65,535.
pub record Weighs (heap cells : List ℕ) (base : ℕ) (trail : List ℕ) (count : ℕ) (r : Weight) : Type 0 where
  pub grown : Grown heap cells trail count 4096 (plain r)
  pub one : 1 ≤ r.variables
  pub old : (θ : Subst) → Solved heap cells θ → (y : ℕ) → y < base → 1 + comes θ trail count y ≤ r.times
  pub new : (θ : Subst) → Solved heap cells θ → (y : ℕ) → base ≤ y → comes θ trail count y ≤ r.times
  pub room : r.times ≤ 553648129

-- the same, where it is known
abbrev pub Weighed : List ℕ → List ℕ → ℕ → List ℕ → ℕ → Option Weight → Type 0
Weighed heap cells base trail count r = IfSome r (Weighs heap cells base trail count)
