-- Two rows of the heap made equal: what is bound for it, and nothing else.
use Rattle.std.specs.Prelude.{ℕ, suc, ◌+◌, ◌<◌, ◌≤◌, ◌≡◌, ◌↔◌, List, length, set}
use Rattle.terms.specs.Subst.{In, Subst, apply}
use Rattle.words.specs.Word.{Fits}
use Rattle.heap.specs.Heap.{rows, Whole, bound, Made, Solves, Solved}
use Rattle.matching.specs.Meeting.{Equal}
use Rattle.matching.specs.Binding.{noted, counted, Trailed}
use Rattle.matching.specs.declared.unifying.Trial.{Trial}
use Rattle.matching.specs.declared.unifying.Step.{Step}
use Rattle.matching.specs.declared.unifying.Step.TheVariants.{Done, Inside, Clash, Tired}
use Rattle.matching.specs.declared.unifying.Tried.{Tried}

-- as long as no goal variable is bound, what stands before the clause has none of the clause's variables
abbrev pub Unmixed : List ℕ → List ℕ → Trial → Type 0
Unmixed heap cells t = t.count ≡ 0 → (v r : ℕ) → t.base ≤ v → r < t.start → Whole heap 1 r → (θ : Subst) → Solved heap cells θ → ¬ In v (apply θ (rows heap 1 r))

-- rows that begin before the position `start` have variables below `base` alone
abbrev pub Low : List ℕ → ℕ → ℕ → Type 0
Low heap base start = (r : ℕ) → r < start → Whole heap 1 r → (v : ℕ) → In v (rows heap 1 r) → v < base

-- a trial that begins: what stands before the clause has the goal's variables alone, and those of them that are bound are bound to what stands there
pub record Begun (heap cells : List ℕ) (t : Trial) : Type 0 where
  pub none : t.count ≡ 0
  pub inner : (v p : ℕ) → v < t.base → bound cells v ≡ suc p → p < t.start
  pub low : Low heap t.base t.start

-- variables that are not on the heap are not bound
abbrev pub Unseen : List ℕ → List ℕ → List ℕ → Type 0
Unseen heap cells cells' = (θ : Subst) → Solved heap cells θ → (n v : ℕ) → Fits n heap → n ≤ v → bound cells v ≡ 0 → bound cells' v ≡ 0

-- more is bound, and the rows at p and q are equal for it: for just those solutions of what was bound before that make them equal
pub record More (heap cells : List ℕ) (p q : ℕ) (cells' : List ℕ) : Type 0 where
  pub made : Made heap cells'
  pub long : length cells' ≡ length cells
  pub grows : (v : ℕ) → bound cells' v ≡ 0 → bound cells v ≡ 0
  pub solved : (θ : Subst) → Solved heap cells θ → (θ' : Subst) × Solved heap cells' θ'
  pub just : (τ : Subst) → (Solves heap cells τ × Equal heap τ 1 p q) ↔ Solves heap cells' τ

-- v is on the row at r, and on the trail if it is the goal's
pub record Bound (heap cells trail : List ℕ) (t : Trial) (v r : ℕ) (cells' trail' : List ℕ) (count : ℕ) : Type 0 where
  pub cells_are : cells' ≡ set cells v (suc r)
  pub trail_is : trail' ≡ noted t.base v t.count trail
  pub count_is : count ≡ counted t.base v t.count

abbrev pub Hung : List ℕ → List ℕ → List ℕ → Trial → ℕ → ℕ → List ℕ → List ℕ → Step → Type 0
Hung heap cells trail t v r cells' trail' (Done count left) = Bound heap cells trail t v r cells' trail' count × (left ≤ t.fuel) × ((θ : Subst) → Solved heap cells θ → ¬ In v (apply θ (rows heap 1 r)))
Hung heap cells trail t v r cells' trail' (Inside a b k) = ⊥
Hung heap cells trail t v r cells' trail' Clash = (cells' ≡ cells) × (trail' ≡ trail) × ((θ : Subst) → Solved heap cells θ → In v (apply θ (rows heap 1 r)))
Hung heap cells trail t v r cells' trail' Tired = (cells' ≡ cells) × (trail' ≡ trail)

-- the trail is kept up
pub record KeptUp (cells trail : List ℕ) (t : Trial) (cells' trail' : List ℕ) (count : ℕ) : Type 0 where
  pub trailed : (before : List ℕ) → Trailed before cells trail t.base t.count → Trailed before cells' trail' t.base count
  pub slow : count ≤ suc t.count
  pub long : length trail' ≡ length trail

abbrev pub Stepped : List ℕ → List ℕ → List ℕ → Trial → ℕ → ℕ → List ℕ → List ℕ → Step → Type 0
Stepped heap cells trail t p q cells' trail' (Done count left) = More heap cells p q cells' × KeptUp cells trail t cells' trail' count × (left ≤ t.fuel)
Stepped heap cells trail t p q cells' trail' (Inside a b k) =
    (cells' ≡ cells) × (trail' ≡ trail) × (0 < k) × Whole heap k a × Whole heap k b × ((τ : Subst) → Solves heap cells τ → Equal heap τ 1 p q ↔ Equal heap τ k a b)
Stepped heap cells trail t p q cells' trail' Clash = (cells' ≡ cells) × (trail' ≡ trail) × ((τ : Subst) → Solves heap cells τ → ¬ Equal heap τ 1 p q)
Stepped heap cells trail t p q cells' trail' Tired = (cells' ≡ cells) × (trail' ≡ trail)

-- how the trail stands where a trial ends
abbrev pub TrailKept : List ℕ → List ℕ → Trial → List ℕ → List ℕ → ℕ → Type 0
TrailKept cells trail t cells' trail' count = ((before : List ℕ) → Trailed before cells trail t.base t.count → Trailed before cells' trail' t.base count) × (count ≤ t.count + t.fuel) × (length cells' ≡ length cells)

abbrev pub Unified : List ℕ → List ℕ → List ℕ → Trial → ℕ → ℕ → List ℕ → List ℕ → Tried ℕ → Type 0
Unified heap cells trail t p q cells' trail' (Tried.Fits count left) = More heap cells p q cells' × TrailKept cells trail t cells' trail' count × (count + left ≤ t.count + t.fuel) × Unseen heap cells cells'
Unified heap cells trail t p q cells' trail' (Tried.Clash count) = TrailKept cells trail t cells' trail' count × ((τ : Subst) → Solves heap cells τ → ¬ Equal heap τ 1 p q) × Unseen heap cells cells'
Unified heap cells trail t p q cells' trail' (Tried.Tired count) = TrailKept cells trail t cells' trail' count × Unseen heap cells cells'
