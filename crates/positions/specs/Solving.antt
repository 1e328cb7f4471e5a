-- The solution that the classes hold.
use Rattle.std.specs.Prelude.{ℕ, zero, suc, ◌+◌, ◌≡◌, Bool, true, false, List, [], ◌∷◌, ◌++◌, length, get_or, eqb, ltb}
use Rattle.terms.specs.Node.{var, Expr}
use Rattle.terms.specs.Row.{Row}
use Rattle.terms.specs.Subst.{Subst}
use Rattle.words.specs.Word.{kind_of, arity_of, Valids, node, nodes}
use Rattle.positions.specs.Words.{child, Ends}
use Rattle.positions.specs.Classes.{root, Grouped}
use Rattle.positions.specs.Ranking.{Settled}
use Rattle.positions.specs.Nodes.{cat}

-- what the class of p stands for, to depth k: the node picked, and what its arguments' classes stand for
abbrev pub resolve : List ℕ → List ℕ → List ℕ → List ℕ → ℕ → ℕ → Expr
resolve w e up pick zero p = []
resolve w e up pick (suc k) p =
    node (get_or w (get_or pick (root up p) 0) 0)
    ∷ cat (λ i. resolve w e up pick k (child e (get_or pick (root up p) 0) i)) (arity_of (get_or w (get_or pick (root up p) 0) 0))

-- a rank is as deep as needed
abbrev pub resolved : List ℕ → List ℕ → List ℕ → List ℕ → List ℕ → ℕ → Expr
resolved w e up pick rank p = resolve w e up pick (suc (get_or rank (root up p) 0)) p

abbrev pub choose : Bool → Expr → Expr → Expr
choose true a b = a
choose false a b = b

abbrev pub both : Bool → Bool → Bool
both true b = b
both false b = false

-- whether the variable v stands at the position that `first` has for it
abbrev pub stands : List ℕ → List ℕ → ℕ → Bool
stands w first v = both (ltb v 65536) (eqb (get_or w (get_or first v 0) 0) (16777216 + v))

abbrev pub solution : List ℕ → List ℕ → List ℕ → List ℕ → List ℕ → List ℕ → Subst
solution w e up pick rank first v = choose (stands w first v) (resolved w e up pick rank (get_or first v 0)) (var v ∷ [])

-- w is the nodes of the formulas a and b, one behind the other; each begins with a predicate's word
pub record Sides (w : List ℕ) (a b : Expr) : Type 0 where
  pub left : Row 1 a
  pub right : Row 1 b
  pub both : nodes w ≡ a ++ b
  pub left_head : kind_of (get_or w 0 0) ≡ 4
  pub right_head : kind_of (get_or w (length a) 0) ≡ 4

abbrev pub Problem : List ℕ → Type 0
Problem w = (a : Expr) × (b : Expr) × Sides w a b

-- classes that hold a solution
pub record Solved (w e up pick rank : List ℕ) : Type 0 where
  pub grouped : Grouped w up pick
  pub ends : Ends w e
  pub end_length : length e ≡ length w
  pub valid : Valids w
  pub settled : Settled w e up pick rank true
