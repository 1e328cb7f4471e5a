-- What an answer and the area are that are those of the definition.
use Rattle.std.specs.Prelude.{ℕ, ◌≡◌, List}
use Rattle.terms.specs.Node.{Expr}
use Rattle.format.specs.declared.Check.{Check}
use Rattle.printing.specs.Named.{Naming}
use Rattle.printouts.specs.declared.Printout.{Printout}
use Rattle.printouts.specs.Outcome.{outcome, outcome_area}

module _ (found : Check) (e : Expr) (text : Naming → List ℕ) (names area : List ℕ) where
  pub record Is (p : Printout) (s : List ℕ) : Type 0 where
    pub answer : p ≡ outcome found e text names area
    pub area_is : s ≡ outcome_area found e text names area
