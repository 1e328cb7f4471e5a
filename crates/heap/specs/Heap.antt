-- The heap: rows of words, one to a node, that only grow, and a table of what the variables in them are bound to. A variable's number is its place in the table.
use Rattle.std.specs.Prelude.{ℕ, suc, ◌%◌, ◌<◌, ◌≡◌, List, length, get_or, drop}
use Rattle.terms.specs.Node.{Expr}
use Rattle.terms.specs.Row.{Row}
use Rattle.terms.specs.Subst.{Subst, Proper, apply, itself}
use Rattle.terms.specs.Argument.{firsts}
use Rattle.words.specs.Word.{kind_of, Fits, nodes}

-- the k rows from the position p on
abbrev pub rows : List ℕ → ℕ → ℕ → Expr
rows heap k p = firsts k (drop p (nodes heap))

-- they are all there
abbrev pub Whole : List ℕ → ℕ → ℕ → Type 0
Whole heap k p = Row k (rows heap k p)

-- the position after that of the row which v is bound to; 0 where it is not bound
abbrev pub bound : List ℕ → ℕ → ℕ
bound cells v = get_or cells v 0

-- every variable has its place in the table; what is bound is bound to a row, and if that is a variable, to one of a lower number: so that no variables are bound in a
-- circle
pub record Made (heap cells : List ℕ) : Type 0 where
  pub fits : Fits (length cells) heap
  pub short : length heap < 65536
  pub whole : (v p : ℕ) → bound cells v ≡ suc p → Whole heap 1 p
  pub lower : (v p : ℕ) → bound cells v ≡ suc p → kind_of (get_or heap p 0) ≡ 1 → get_or heap p 0 % 65536 < v

-- τ solves the bindings: what a variable is bound to becomes equal to it
pub record Solves (heap cells : List ℕ) (τ : Subst) : Type 0 where
  pub proper : Proper τ
  pub stands : (v p : ℕ) → bound cells v ≡ suc p → τ v ≡ apply τ (rows heap 1 p)

-- What the heap means: θ is the solution that leaves every variable that is not bound. There is one just where no term is bound into itself; it is one only, and most
-- general (SolvedLaws).
pub record Solved (heap cells : List ℕ) (θ : Subst) : Type 0 where
  pub solves : Solves heap cells θ
  pub free : (v : ℕ) → bound cells v ≡ 0 → θ v ≡ itself v
