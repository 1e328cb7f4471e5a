-- Places of variables in an expression, counted and weighed.
use Rattle.std.specs.Prelude.{ℕ, zero, suc, ◌+◌, ◌≤◌, List, [], ◌∷◌, eqb, ltb}
use Rattle.terms.specs.When.{◌⇒◌∣◌}
use Rattle.terms.specs.Node.{var, sym, Expr}
use Rattle.words.specs.Flat.{flat}

-- what the variables of an expression weigh, each as often as it is there
abbrev pub weigh : (ℕ → ℕ) → Expr → ℕ
weigh w [] = 0
weigh w (var v ∷ e) = w v + weigh w e
weigh w (sym s ∷ e) = weigh w e

-- how many places of variables there are
abbrev pub places : Expr → ℕ
places e = weigh (λ v. 1) e

-- how often x is there
abbrev pub times : ℕ → Expr → ℕ
times x e = weigh (λ v. eqb x v ⇒ 1 ∣ 0) e

-- one for the variables below a number
abbrev pub below : ℕ → ℕ → ℕ
below base v = ltb v base ⇒ 1 ∣ 0

-- the places of several expressions
abbrev pub places_all : List Expr → ℕ
places_all [] = 0
places_all (f ∷ g) = places f + places_all g

-- no variable is in them more than k times, all in all
pub record Seldom (k : ℕ) (g : List Expr) : Type 0 where
  pub each : (x : ℕ) → times x (flat g) ≤ k

-- n numbers added up
abbrev pub total : (ℕ → ℕ) → ℕ → ℕ
total k zero = 0
total k (suc n) = k n + total k n
