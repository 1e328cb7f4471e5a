-- Flat books and goals (document 02, C-20): "constants and variables only".
use Rattle.std.specs.Prelude.{ℕ, List, [], ◌∷◌}
use Rattle.terms.specs.Node.{Symbol, constant, compound, predicate, sym, Expr}
use Rattle.terms.specs.Row.{Row, Every}
use Rattle.terms.specs.Substitution.{Symbols}
use Rattle.loops.proofs.Finite.{Listed}
use Rattle.search.specs.Next.{Book, Goal}

-- the symbols of arguments: of these constants, no compound term
abbrev pub ConstantOf : List ℕ → Symbol → Type 0
ConstantOf constants (constant c) = Listed c constants
ConstantOf constants (compound f n) = ⊥
ConstantOf constants (predicate p n) = ⊥

-- a formula of these predicates, each a number with an arity, whose arguments are variables and these constants
pub data Flat (predicates : List Symbol) (constants : List ℕ) : Expr → Type 0 where
  flat : {p a : ℕ} {e : Expr} → Listed (predicate p a) predicates → Row a e → Symbols (ConstantOf constants) e → Flat predicates constants (sym (predicate p a) ∷ e)

abbrev pub FlatGoal : List Symbol → List ℕ → Goal → Type 0
FlatGoal predicates constants g = Every (Flat predicates constants) g

abbrev pub IsFlatBook : List Symbol → List ℕ → Book → Type 0
IsFlatBook predicates constants [] = Unit {0}
IsFlatBook predicates constants (c ∷ P) = FlatGoal predicates constants (c.head ∷ c.body) × IsFlatBook predicates constants P
