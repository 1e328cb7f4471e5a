-- A trial of two formulas, argument by argument.
use Rattle.std.specs.Prelude.{ℕ, ◌+◌, ◌%◌, ◌<◌, ◌≡◌, Bool, true, false, List, length, get_or, drop}
use Rattle.terms.specs.Node.{Expr}
use Rattle.terms.specs.Subst.{Subst, Proper, Unifies, MostGeneral}
use Rattle.terms.specs.Argument.{ClashesAt, clash}
use Rattle.words.specs.Word.{kind_of, arity_of}
use Rattle.positions.specs.Classes.{root, Label, Agree}
use Rattle.positions.specs.Steps.{Args}
use Rattle.positions.specs.Closing.{Good, Closed}
use Rattle.positions.specs.Nodes.{value}
use Rattle.positions.specs.Solving.{Sides, Solved, solution}

-- `first` has for each variable of w a position where it stands
abbrev pub Firsts : List ℕ → List ℕ → Type 0
Firsts w first = (x : ℕ) → x < length w → kind_of (get_or w x 0) ≡ 1 → get_or w (get_or first (get_or w x 0 % 65536) 0) 0 ≡ get_or w x 0

-- the classes follow from the equality of the first j arguments of the formulas at 0 and at m, no more and no less
pub record Trial (w e up pick first : List ℕ) (m j : ℕ) : Type 0 where
  pub closed : Closed w e up pick
  pub second : m ≡ get_or e 0 0
  pub inside : m < length w
  pub firsts : Firsts w first
  pub vars : (x y : ℕ) → x < length w → y < length w → kind_of (get_or w x 0) ≡ 1 → get_or w x 0 ≡ get_or w y 0 → root up x ≡ root up y
  pub sound : (f : Label) → Good w e f → Args f e j 0 m → Agree f up
  pub meets : (f : Label) → Agree f up → Args f e j 0 m

-- no substitution makes the first j arguments equal
abbrev pub Refused : List ℕ → List ℕ → ℕ → ℕ → Type 0
Refused w e m j = (θ : Subst) → Proper θ → Args (value w e θ) e j 0 m → ⊥

-- what making the argument j equal says, by the classes alone
pub record Equated (w e up pick first : List ℕ) (m j : ℕ) (r : Bool) : Type 0 where
  pub held : r ≡ true → Trial w e up pick first m (j + 1)
  pub refused : r ≡ false → Refused w e m (j + 1)

-- what the search for a cycle says of the first j arguments
pub record Checked (w e up pick rank first : List ℕ) (m j : ℕ) (r : Bool) : Type 0 where
  pub held : Trial w e up pick first m j
  pub solved : r ≡ true → Solved w e up pick rank
  pub refused : r ≡ false → Refused w e m j

-- what the trial of argument j says: the two together
pub record Argued (w e up pick rank first : List ℕ) (m j : ℕ) (r : Bool) : Type 0 where
  pub held : r ≡ true → Trial w e up pick first m (j + 1)
  pub solved : r ≡ true → Solved w e up pick rank
  pub refused : r ≡ false → Refused w e m (j + 1)

-- what the number r says of the formulas a and b, each of n arguments where they have one predicate:
-- 0, σ unifies them; 65535, their predicates differ; else the first argument that cannot be unified together with those before it
pub record Answer (σ : Subst) (n : ℕ) (a b : Expr) (r : ℕ) : Type 0 where
  pub unified : r ≡ 0 → MostGeneral σ a b
  pub failed : (r ≡ 0 → ⊥) → (θ : Subst) → Unifies θ a b → ⊥
  pub clashes : (r ≡ 0 → ⊥) → (r ≡ 65535 → ⊥) → ClashesAt (drop 1 a) (drop 1 b) r
  pub number : (r ≡ 65535 → ⊥) → r ≡ clash n (drop 1 a) (drop 1 b)

pub record Verdict (w e up pick rank first : List ℕ) (r : ℕ) : Type 0 where
  pub solved : r ≡ 0 → Solved w e up pick rank
  pub other : r ≡ 65535 → (a b : Expr) → Sides w a b → get_or w 0 0 ≡ get_or w (length a) 0 → ⊥
  pub answer : (a b : Expr) → Sides w a b → Answer (solution w e up pick rank first) (arity_of (get_or w 0 0)) a b r
