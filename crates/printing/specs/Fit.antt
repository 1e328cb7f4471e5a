-- Names of the form that a symbol's name has.
use Rattle.std.specs.Prelude.{ℕ, ◌≤◌, List, length}
use Rattle.terms.specs.Node.{Expr}
use Rattle.grammar.specs.Byte.{IsName}
use Rattle.grammar.specs.Names.{Sort}
use Rattle.printing.specs.Named.{Naming}
use Rattle.printing.specs.Renumbered.{Uses}

-- a name "of C-13's form, 1 to 32 bytes"
pub record Fit (w : List ℕ) : Type 0 where
  pub spelt : IsName w
  pub short : length w ≤ 32

-- each symbol that stands in e has one
abbrev pub AllFit : Naming → Expr → Type 0
AllFit name e = (k : Sort) (n : ℕ) → Uses k n e → Fit (name k n)
