-- A head matched with a formula of the goal: what its variables are bound to, and the pairs that are left.
use Rattle.std.specs.Prelude.{ℕ, ◌<◌, ◌≤◌, ◌≡◌, ◌↔◌, List, length, Option, Some, None}
use Rattle.terms.specs.Subst.{Subst}
use Rattle.heap.specs.Heap.{bound, Made, Solves, Solved}
use Rattle.matching.specs.Meeting.{Equal}
use Rattle.matching.specs.Pairs.{EqualAll, Due}
use Rattle.matching.specs.Unifying.{Unseen}
use Rattle.matching.specs.declared.pairs.Pairs.{Pairs}
use Rattle.matching.specs.declared.heads.Way.{Way}
use Rattle.matching.specs.declared.heads.Way.TheVariants.{On, Unlike, Open}

-- more is bound, but of the variables from `base` on alone
pub record Extends (heap : List ℕ) (base : ℕ) (cells cells' : List ℕ) : Type 0 where
  pub made : Made heap cells'
  pub long : length cells' ≡ length cells
  pub grows : (v : ℕ) → bound cells' v ≡ 0 → bound cells v ≡ 0
  pub solved : (θ : Subst) → Solved heap cells θ → (θ' : Subst) × Solved heap cells' θ'
  pub back : (τ : Subst) → Solves heap cells' τ → Solves heap cells τ
  pub old : (v : ℕ) → v < base → bound cells' v ≡ bound cells v
  pub unseen : Unseen heap cells cells'

-- the pairs y in the place of x, for what is bound now
pub record Onward (heap : List ℕ) (base : ℕ) (cells stack : List ℕ) (x : Pairs) (cells' stack' : List ℕ) (y : Pairs) : Type 0 where
  pub extends : Extends heap base cells cells'
  pub due : Due heap stack x → Due heap stack' y
  pub deep : x.depth ≤ 128 → y.depth ≤ 128
  pub just : (τ : Subst) → (Solves heap cells τ × EqualAll heap stack τ x) ↔ (Solves heap cells' τ × EqualAll heap stack' τ y)

abbrev pub Passes : List ℕ → ℕ → List ℕ → List ℕ → Pairs → List ℕ → List ℕ → Way → Type 0
Passes heap base cells stack x cells' stack' (On y) = Onward heap base cells stack x cells' stack' y
Passes heap base cells stack x cells' stack' Unlike = (cells' ≡ cells) × ((τ : Subst) → Solves heap cells τ → ¬ Equal heap τ x.due x.p x.q)
Passes heap base cells stack x cells' stack' Open = (cells' ≡ cells) × (stack' ≡ stack)

-- for what is bound now the pairs x are left of the rows at p and q
pub record Matching (heap : List ℕ) (base : ℕ) (cells : List ℕ) (p q : ℕ) (cells' stack : List ℕ) (x : Pairs) : Type 0 where
  pub extends : Extends heap base cells cells'
  pub due : Due heap stack x
  pub deep : x.depth ≤ 128
  pub ended : x.due ≡ 0 → x.depth ≡ 0
  pub just : (τ : Subst) → (Solves heap cells τ × Equal heap τ 1 p q) ↔ (Solves heap cells' τ × EqualAll heap stack τ x)

abbrev pub HeadMet : List ℕ → ℕ → List ℕ → ℕ → ℕ → List ℕ → List ℕ → Option Pairs → Type 0
HeadMet heap base cells p q cells' stack (Some x) = Matching heap base cells p q cells' stack x
HeadMet heap base cells p q cells' stack None = Extends heap base cells cells' × ((τ : Subst) → Solves heap cells τ → ¬ Equal heap τ 1 p q)
