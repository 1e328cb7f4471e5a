-- A ride: from an open state to one that is held in words again, or to none.
use Rattle.std.specs.Prelude.{ℕ, ◌≤◌, ◌<◌, ◌≡◌, Bool, true, false, ◌⊎◌, List, ◌∷◌, length, take}
use Rattle.std.proofs.Math.Option.{Option as Maybe, some}
use Rattle.terms.specs.Node.{Expr}
use Rattle.terms.specs.Number.{Numbered}
use Rattle.search.specs.Next.{Book, Goal}
use Rattle.search.specs.Answer.{answer_at}
use Rattle.words.specs.Word.{nodes}
use Rattle.words.specs.Columns.{WORDS, CELLS}
use Rattle.detector.specs.Detecting.{due, moved}
use Rattle.states.specs.States.{Kept, Reached, Opens}
use Rattle.matching.specs.TrialLaws.{Free}
use Rattle.heapgoals.specs.Holding.{Holds}
use Rattle.heapgoals.specs.declared.Standing.{Standing}
use Rattle.rides.specs.declared.Start.{Start}
use Rattle.rides.specs.declared.Come.{Come}
use Rattle.std.specs.declared.option.Option.{Option}
use Rattle.std.specs.declared.option.Option.TheVariants.{None, Some}
use Rattle.rides.specs.declared.looking.Along.{Along}
use Rattle.rides.specs.declared.looking.Ahead.{Ahead}

-- storage of a ride
pub record Lent (words cells rows saved out : List ℕ) : Type 0 where
  pub words_length : length words ≤ WORDS
  pub cells_length : length cells ≡ 8256
  pub rows_length : length rows ≡ CELLS
  pub saved_room : 4096 ≤ length saved
  pub out_length : length out ≡ 8192

-- the state that a ride starts from is open, and the first of the words are its row; the query is numbered, as images have it
pub record Starts (P : Book) (q : Goal) (words saved : List ℕ) (x : Start) : Type 0 where
  pub opens : Opens P q x.budget words saved x.place
  pub answers : x.answers ≡ length q
  pub numbered : Numbered q

-- its goal and answer are held, on any heap that begins with these words and where nothing is bound
abbrev pub StandingAt : List ℕ → Start → Standing → Type 0
StandingAt words x s = (P : Book) (q : Goal) (saved : List ℕ) (y : Starts P q words saved x) (cells levels : List ℕ) → Free cells → length cells ≡ 8256 → length levels ≡ 1028
    → Holds words cells levels s (y.opens.formula ∷ y.opens.rest) (answer_at P q x.place.detector.step)

-- a later state is come to, and the first words of `out` are its row
pub record Arrived (P : Book) (q : Goal) (budget since : ℕ) (saved out : List ℕ) (c : Come) : Type 0 where
  pub here : Reached P q budget out saved c.detector c.words c.formulas c.answer c.kept
  pub later : since < c.detector.step

abbrev pub Went : Book → Goal → ℕ → ℕ → List ℕ → List ℕ → Option Come → Type 0
Went P q budget since saved out None = Unit {0}
Went P q budget since saved out (Some c) = Arrived P q budget since saved out c

-- where none is come to, the saved formula is as it was
abbrev pub Rode : Book → Goal → List ℕ → Start → List ℕ → List ℕ → Option Come → Type 0
Rode P q saved x saved' out None = take x.place.kept saved' ≡ take x.place.kept saved
Rode P q saved x saved' out (Some c) = Arrived P q x.budget x.place.detector.step saved' out c

-- neither does "t equals the budget", nor is the leftmost formula the saved one in a goal that is long enough
pub record Apart (saved : List ℕ) (x : Along) (f : Expr) (g : Goal) : Type 0 where
  pub allowed : x.detector.step ≡ x.budget → ⊥
  pub other : (length (f ∷ g) < x.detector.length) ⊎ (f ≡ nodes (take x.kept saved) → ⊥)

abbrev pub ApartFrom : List ℕ → Along → Goal → Type 0
ApartFrom saved x g = (f : Expr) × (r : Goal) × (g ≡ f ∷ r) × Apart saved x f r

-- the first k words of `out` are the formula f, if that is to be saved
abbrev pub Drawn : Expr → List ℕ → ℕ → Bool → Type 0
Drawn f out k true = Kept out k (some f)
Drawn f out k false = Unit {0}

pub record Foreseen (saved out : List ℕ) (x : Along) (f : Expr) (g : Goal) (r : Ahead) : Type 0 where
  pub apart : Apart saved x f g
  pub due_is : r.due ≡ due x.detector (length (f ∷ g))
  pub drawn : Drawn f out r.kept r.due

abbrev pub ForeseenFrom : List ℕ → List ℕ → Along → Goal → Ahead → Type 0
ForeseenFrom saved out x g r = (f : Expr) × (h : Goal) × (g ≡ f ∷ h) × Foreseen saved out x f h r

-- some formula is saved, or none
abbrev pub KeepsSome : List ℕ → ℕ → Type 0
KeepsSome saved k = (o : Maybe Expr) × Kept saved k o

-- the numbers after a step: a save, if one is due, and "then t grows by one"
abbrev pub onward_of : Along → ℕ → ℕ → ℕ → Bool → Along
onward_of x budget kept length due = record { detector = moved due x.detector length; kept = kept; budget = budget }

-- a goal with its answer is held
abbrev pub Something : List ℕ → List ℕ → List ℕ → Standing → Type 0
Something words cells levels s = (g : Goal) × (a : Goal) × Holds words cells levels s g a
