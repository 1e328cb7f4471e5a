-- The tables of a problem, each a column of the rows lent.
use Rattle.std.specs.Prelude.{Option, ℕ, Bool, List, length}
use Rattle.terms.specs.Subst.{Subst}
use Rattle.words.specs.Columns.{column, END, UP, PICK, LEFT, RIGHT, RANK, FIRST, STACK, ROWS}
use Rattle.words.specs.Word.{Valids}
use Rattle.positions.specs.Classes.{Grouped}
use Rattle.positions.specs.Steps.{State, state}
use Rattle.positions.specs.Diving.{Searched, Dive, Diving}
use Rattle.positions.specs.Closing.{Closed}
use Rattle.positions.specs.Solving.{Solved, solution}
use Rattle.positions.specs.Trying.{Trial, Equated, Checked, Argued, Verdict}

-- a number to each word

abbrev pub ends : List ℕ → List ℕ → List ℕ
ends w rows = column END (length w) rows

abbrev pub ups : List ℕ → List ℕ → List ℕ
ups w rows = column UP (length w) rows

abbrev pub picks : List ℕ → List ℕ → List ℕ
picks w rows = column PICK (length w) rows

abbrev pub lefts : List ℕ → List ℕ → List ℕ
lefts w rows = column LEFT (length w) rows

abbrev pub rights : List ℕ → List ℕ → List ℕ
rights w rows = column RIGHT (length w) rows

abbrev pub ranks : List ℕ → List ℕ → List ℕ
ranks w rows = column RANK (length w) rows

-- a number to each row

abbrev pub firsts : List ℕ → List ℕ
firsts rows = column FIRST ROWS rows

abbrev pub stacks : List ℕ → List ℕ
stacks rows = column STACK ROWS rows

-- what is said of them together

abbrev pub state_in : List ℕ → List ℕ → ℕ → State
state_in w rows tail = state (ups w rows) (picks w rows) (lefts w rows) (rights w rows) tail

abbrev pub ClosedIn : List ℕ → List ℕ → Type 0
ClosedIn w rows = Closed w (ends w rows) (ups w rows) (picks w rows)

abbrev pub SolvedIn : List ℕ → List ℕ → Type 0
SolvedIn w rows = Solved w (ends w rows) (ups w rows) (picks w rows) (ranks w rows)

abbrev pub TrialIn : List ℕ → List ℕ → ℕ → ℕ → Type 0
TrialIn w rows m j = Trial w (ends w rows) (ups w rows) (picks w rows) (firsts rows) m j

abbrev pub solution_in : List ℕ → List ℕ → Subst
solution_in w rows = solution w (ends w rows) (ups w rows) (picks w rows) (ranks w rows) (firsts rows)

abbrev pub EquatedIn : List ℕ → List ℕ → ℕ → ℕ → Bool → Type 0
EquatedIn w rows m j r = Equated w (ends w rows) (ups w rows) (picks w rows) (firsts rows) m j r

abbrev pub CheckedIn : List ℕ → List ℕ → ℕ → ℕ → Bool → Type 0
CheckedIn w rows m j r = Checked w (ends w rows) (ups w rows) (picks w rows) (ranks w rows) (firsts rows) m j r

abbrev pub ArguedIn : List ℕ → List ℕ → ℕ → ℕ → Bool → Type 0
ArguedIn w rows m j r = Argued w (ends w rows) (ups w rows) (picks w rows) (ranks w rows) (firsts rows) m j r

abbrev pub VerdictIn : List ℕ → List ℕ → ℕ → Type 0
VerdictIn w rows r = Verdict w (ends w rows) (ups w rows) (picks w rows) (ranks w rows) (firsts rows) r

-- before a search for ranks from s on, with an empty stack
pub record Search (w rows : List ℕ) (s : ℕ) : Type 0 where
  pub grouped : Grouped w (ups w rows) (picks w rows)
  pub searched : Searched w (ends w rows) (ups w rows) (ranks w rows)
  pub valid : Valids w
  pub dive : Dive w (ends w rows) (ups w rows) (picks w rows) (ranks w rows) s (lefts w rows) (rights w rows) 0

-- after it, from rows to z: a cycle, or the next rank is t
abbrev pub Found : List ℕ → List ℕ → ℕ → Option ℕ → List ℕ → Type 0
Found w rows r t z = Diving w (ends w rows) (ups w rows) (picks w rows) (ranks w rows) r (ranks w z) t (lefts w z) (rights w z)
