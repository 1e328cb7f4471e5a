-- The state of a closure and what a step of it does.
use Rattle.std.specs.Prelude.{Option, MatchOption, ℕ, suc, ◌+◌, ◌≤◌, ◌<◌, ◌≡◌, Bool, true, false, List, [], ◌∷◌, length, get_or, eqb}
use Rattle.words.specs.Word.{arity_of, Plain}
use Rattle.positions.specs.Words.{child}
use Rattle.positions.specs.Classes.{root, Down, Label, Agree, picked, Grouped}

-- the sum of t at each place of a list, from place i on
abbrev pub tally : (ℕ → ℕ → ℕ) → ℕ → List ℕ → ℕ
tally t i [] = 0
tally t i (u ∷ l) = t i u + tally t (suc i) l

abbrev pub one_if : Bool → ℕ
one_if true = 1
one_if false = 0

abbrev pub own : ℕ → ℕ → ℕ
own i u = one_if (eqb u i)

-- how many positions are roots
abbrev pub roots : List ℕ → ℕ
roots up = tally own 0 up

-- up: the classes; pick: for each root a position of its class, and no variable's where there is such a one;
-- left and right: pairs of positions whose arguments are to be made equal, tail of them
pub record State : Type 0 where
  pub up : List ℕ
  pub pick : List ℕ
  pub left : List ℕ
  pub right : List ℕ
  pub tail : ℕ

abbrev pub state : List ℕ → List ℕ → List ℕ → List ℕ → ℕ → State
state u p l r t = record { up = u; pick = p; left = l; right = r; tail = t }

-- the positions of the pair j are of one word, and no variable's
pub record Paired (w left right : List ℕ) (j : ℕ) : Type 0 where
  pub left_fits : get_or left j 0 < length w
  pub right_in : get_or right j 0 < length w
  pub plain : Plain (get_or w (get_or left j 0) 0)
  pub word : get_or w (get_or left j 0) 0 ≡ get_or w (get_or right j 0) 0

pub record Ready (w : List ℕ) (s : State) : Type 0 where
  pub grouped : Grouped w s.up s.pick
  pub left_length : length s.left ≡ length w
  pub right_length : length s.right ≡ length w
  pub count : roots s.up + s.tail ≤ length w
  pub pairs : (j : ℕ) → j < s.tail → Paired w s.left s.right j

-- the first k arguments at x and y have the same labels
abbrev pub Args : Label → List ℕ → ℕ → ℕ → ℕ → Type 0
Args f e k x y = (i : ℕ) → i < k → f (child e x i) ≡ f (child e y i)

-- nodes of other words have other labels
abbrev pub Apart : List ℕ → Label → Type 0
Apart w f = (x y : ℕ) → x < length w → y < length w → Plain (get_or w x 0) → Plain (get_or w y 0) → f x ≡ f y → get_or w x 0 ≡ get_or w y 0

-- from s to z the classes grow by just what P asks, up to the pairs that z has more
pub record Step (w : List ℕ) (s : State) (P : Label → Type 0) (z : State) : Type 0 where
  pub ready : Ready w z
  pub grows : s.tail ≤ z.tail
  pub left_kept : (j : ℕ) → j < s.tail → get_or z.left j 0 ≡ get_or s.left j 0
  pub right_kept : (j : ℕ) → j < s.tail → get_or z.right j 0 ≡ get_or s.right j 0
  pub sound : (f : Label) → Agree f s.up → P f → Agree f z.up
  pub pair_sound : (f : Label) → Agree f s.up → P f → (j : ℕ) → s.tail ≤ j → j < z.tail → f (get_or z.left j 0) ≡ f (get_or z.right j 0)
  pub keeps : (f : Label) → Agree f z.up → Agree f s.up
  pub meets : (f : Label) → Agree f z.up → P f
  pub args : (x : ℕ) → x < length w → Plain (get_or w x 0) → (e : List ℕ) (f : Label) → Agree f z.up →
      ((j : ℕ) → s.tail ≤ j → j < z.tail → Args f e (arity_of (get_or w (get_or z.left j 0) 0)) (get_or z.left j 0) (get_or z.right j 0)) →
      Args f e (arity_of (get_or w x 0)) (picked s.up s.pick x) (picked z.up z.pick x)

-- no label that tells words apart is the same over the classes and as P asks
abbrev pub Fails : List ℕ → State → (Label → Type 0) → Type 0
Fails w s P = (f : Label) → Apart w f → Agree f s.up → P f → ⊥

-- two words differ; or so many pairs are there, and z has the state with them
pub record Outcome (w : List ℕ) (s : State) (P : Label → Type 0) (z : ℕ → State) (r : Option ℕ) : Type 0 where
  pub known : MatchOption r (Fails w s P) (λ t. Step w s P (z t))

-- the same classes, by other ways to the roots
pub record Flat (up z : List ℕ) : Type 0 where
  pub long : length z ≡ length up
  pub down : Down z
  pub same : (x : ℕ) → root z x ≡ root up x
  pub count : roots z ≡ roots up
