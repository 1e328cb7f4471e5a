-- The flat formulas of some predicates, over so many variables and some constants.
use Rattle.std.specs.Prelude.{ℕ, zero, suc}
use mathlib.Core.List.{List, [], ◌∷◌, ◌++◌, map}
use Rattle.terms.specs.Node.{Symbol, constant, compound, predicate, Node, var, sym, Expr}

-- each letter before each word
abbrev pub before : List Node → List Expr → List Expr
before [] words = []
before (x ∷ letters) words = map (λ w. x ∷ w) words ++ before letters words

-- the words of n letters
abbrev pub words : List Node → ℕ → List Expr
words letters zero = [] ∷ []
words letters (suc n) = before letters (words letters n)

-- the first n variables
abbrev pub variables : ℕ → List Node
variables zero = []
variables (suc n) = var n ∷ variables n

-- what arguments are made of: so many variables, and the constants
abbrev pub letters : ℕ → List ℕ → List Node
letters n cs = variables n ++ map (λ c. sym (constant c)) cs

-- the formulas of one predicate, and of all
abbrev pub of_predicate : List ℕ → Symbol → List Expr
of_predicate cs (constant c) = []
of_predicate cs (compound f n) = []
of_predicate cs (predicate p a) = map (λ e. sym (predicate p a) ∷ e) (words (letters a cs) a)

abbrev pub formulas : List Symbol → List ℕ → List Expr
formulas [] cs = []
formulas (s ∷ ps) cs = of_predicate cs s ++ formulas ps cs
