-- What the pen's parts do.
use Rattle.std.specs.Prelude.{ℕ, zero, suc, ◌≤◌, ◌≡◌, refl, Bool, true, false, List, [], ◌∷◌, ◌++◌, length, drop}
use Rattle.std.proofs.Common.{ap}
use Rattle.printouts.specs.Walk.{begun, closings, left}
use Rattle.printouts.specs.Laying.{Lays}
use Rattle.pen.specs.declared.Pen.{Pen}

-- the brackets behind a term, and the comma

abbrev pub brackets : List ℕ → List ℕ
brackets [] = []
brackets (zero ∷ o) = 41 ∷ brackets o
brackets (suc n ∷ o) = []

abbrev pub comma : List ℕ → List ℕ
comma [] = []
comma (n ∷ o) = 44 ∷ []

pub closings-are : (o : List ℕ) → closings o ≡ brackets o ++ comma (left o)
closings-are [] = refl
closings-are (zero ∷ o) = ap (λ (l : List ℕ). 41 ∷ l) (closings-are o)
closings-are (suc n ∷ o) = refl

-- the innermost symbol that is open has all its arguments
abbrev pub full : List ℕ → Bool
full [] = false
full (zero ∷ o) = true
full (suc n ∷ o) = false

-- a stack with room for 4,096, the innermost symbol's arguments at `top`
pub record Room (stack : List ℕ) (top : ℕ) : Type 0 where
  pub size : length stack ≡ 4096
  pub inside : top ≤ 4096

-- what is owed is the stack from there on
pub record Closed (area area' stack : List ℕ) (pen pen' : Pen) : Type 0 where
  pub text : Lays area area' pen.at pen'.at (brackets (drop pen.top stack))
  pub owed : drop pen'.top stack ≡ left (drop pen.top stack)
  pub turn : pen'.turn ≡ pen.turn
  pub inside : pen'.top ≤ 4096

pub record Ended (area area' stack stack' : List ℕ) (pen pen' : Pen) : Type 0 where
  pub text : Lays area area' pen.at pen'.at (closings (begun (drop pen.top stack)))
  pub owed : drop pen'.top stack' ≡ left (begun (drop pen.top stack))
  pub turn : pen'.turn ≡ pen.turn
  pub room : Room stack' pen'.top
