-- Classes that are closed, and what follows from the equality of two positions.
use Rattle.std.specs.Prelude.{ℕ, ◌<◌, ◌≡◌, Bool, true, false, List, length, get_or}
use Rattle.words.specs.Word.{kind_of, arity_of, Plain, Valids}
use Rattle.positions.specs.Words.{child, Ends}
use Rattle.positions.specs.Classes.{Label, Agree, picked, Grouped}
use Rattle.positions.specs.Steps.{Args, Apart}

-- labels that are as the values of terms: equal words and equal arguments where equal, and longer than the arguments'
pub record Good (w e : List ℕ) (f : Label) : Type 0 where
  pub apart : Apart w f
  pub args : (x y : ℕ) → x < length w → y < length w → Plain (get_or w x 0) → get_or w x 0 ≡ get_or w y 0 → f x ≡ f y → Args f e (arity_of (get_or w x 0)) x y
  pub vars : (x y : ℕ) → x < length w → y < length w → kind_of (get_or w x 0) ≡ 1 → get_or w x 0 ≡ get_or w y 0 → f x ≡ f y
  pub longer : (x i : ℕ) → x < length w → Plain (get_or w x 0) → i < arity_of (get_or w x 0) → length (f (child e x i)) < length (f x)

-- where a position is no variable's, its arguments are in the classes of the arguments picked for it
pub record Closed (w e up pick : List ℕ) : Type 0 where
  pub grouped : Grouped w up pick
  pub ends : Ends w e
  pub end_length : length e ≡ length w
  pub valid : Valids w
  pub args : (p : ℕ) → p < length w → Plain (get_or w p 0) → (f : Label) → Agree f up → Args f e (arity_of (get_or w p 0)) p (picked up pick p)

-- from up to z the classes grow by what follows from the equality of x and y, no more and no less
pub record Grown (w e up : List ℕ) (x y : ℕ) (z : List ℕ) : Type 0 where
  pub sound : (f : Label) → Good w e f → Agree f up → f x ≡ f y → Agree f z
  pub keeps : (f : Label) → Agree f z → Agree f up
  pub meets : (f : Label) → Agree f z → f x ≡ f y

-- no good label makes x and y equal
abbrev pub Refuted : List ℕ → List ℕ → List ℕ → ℕ → ℕ → Type 0
Refuted w e up x y = (f : Label) → Good w e f → Agree f up → f x ≡ f y → ⊥

pub record Closing (w e up : List ℕ) (x y : ℕ) (z pick : List ℕ) (r : Bool) : Type 0 where
  pub closed : r ≡ true → Closed w e z pick
  pub grown : r ≡ true → Grown w e up x y z
  pub refuted : r ≡ false → Refuted w e up x y
