-- The step by the first clause that fits, found on the heap.
use Rattle.std.specs.Prelude.{ℕ, ◌+◌, ◌-◌, ◌<◌, ◌≡◌, List, ◌∷◌, length, get_or, take}
use Rattle.terms.specs.Node.{Expr}
use Rattle.search.specs.Next.{Book, Goal}
use Rattle.words.specs.Held.{RowIn, BookOn, starts, heads, bodies}
use Rattle.resolve.specs.Advancing.{Follows, Advanced}
use Rattle.trials.specs.Trying.{clause_words, HeldTrial}
use Rattle.resolve.specs.declared.Move.{Move}
use Rattle.resolve.specs.declared.Move.TheVariants.{Full, Over, To}
use Rattle.trying.specs.declared.carrying.Parts.{Parts}
use Rattle.trying.specs.declared.carrying.Next.{Next}
use Rattle.trying.specs.declared.stepping.Shape.{Shape}
use Rattle.std.specs.declared.option.Option.{Option}
use Rattle.std.specs.declared.option.Option.TheVariants.{None, Some}

-- of n clauses, where the body of the one number i stands, put behind the row; and the rest of the goal, and the answer
abbrev pub parts : List ℕ → Shape → ℕ → ℕ → Parts
parts shelf x n i = record {
  body = x.row + (get_or (heads n shelf) i 0 - get_or (starts n shelf) i 0);
  bodies = get_or (bodies n shelf) i 0;
  rest = x.first;
  others = x.formulas - 1;
  answer = x.goal;
  answers = x.answers;
}

abbrev pub concluded : Next → ℕ → ℕ → Option Move
concluded Next.Tired i n = None
concluded Next.Full i n = Some Full
concluded Next.Over i n = Some Over
concluded (Next.Done r s) i n = Some (To i r s n)

-- the words w hold the goal of f and g and the answer a, and x is their shape
pub record Shaped (w : List ℕ) (x : Shape) (f : Expr) (g a : Goal) : Type 0 where
  pub row : RowIn w x.goal x.formulas (f ∷ g) a
  pub long : length w ≡ x.row
  pub first : x.first ≡ length f
  pub answers : x.answers ≡ length a

-- the trial of the clause number i stands
pub record IsSetUp (book shelf words cells tables : List ℕ) (x : Shape) (i count : ℕ) (P : Book) (f : Expr) (g a : Goal) : Type 0 where
  pub on : BookOn book shelf P
  pub inside : i < length P
  pub shaped : Shaped (take x.row words) x f g a
  pub trial : HeldTrial (take x.row words) (clause_words book shelf (length P) i) words cells tables x.row count

-- what follows by the clause number i, if anything is known
abbrev pub Quickly : Book → ℕ → Expr → Goal → Goal → List ℕ → Option Move → Type 0
Quickly P i f g a out None = Unit {0}
Quickly P i f g a out (Some m) = Follows P i f g a out m

-- the same by the first clause that fits
abbrev pub Quickened : Book → Goal → Goal → List ℕ → Option Move → Type 0
Quickened P g a out None = Unit {0}
Quickened P g a out (Some m) = Advanced P g a out m
