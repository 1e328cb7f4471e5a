-- Ranks for the roots, above those of their arguments: a class has no cycle through it where it has one.
use Rattle.std.specs.Prelude.{ℕ, ◌+◌, ◌≤◌, ◌<◌, ◌≡◌, Bool, true, false, List, length, get_or, eqb}
use Rattle.words.specs.Word.{arity_of}
use Rattle.positions.specs.Words.{child}
use Rattle.positions.specs.Classes.{root, Label, Agree}
use Rattle.positions.specs.Steps.{tally, one_if}
use Rattle.positions.specs.Closing.{Good}

-- the rank of the class of the argument i at x
abbrev pub under : List ℕ → List ℕ → List ℕ → ℕ → ℕ → ℕ
under e up rank x i = get_or rank (root up (child e x i)) 0

-- 1 for a nought
abbrev pub blank : ℕ → ℕ → ℕ
blank i u = one_if (eqb u 0)

pub record Ranked (w e up pick rank : List ℕ) (stamp : ℕ) : Type 0 where
  pub rank_length : length rank ≡ length w
  pub positive : 1 ≤ stamp
  pub count : tally blank 0 rank + stamp ≤ length w + 1
  pub below : (r : ℕ) → get_or rank r 0 < stamp
  pub above : (r i : ℕ) → r < length w → 0 < get_or rank r 0 → i < arity_of (get_or w (get_or pick r 0) 0) →
      (0 < under e up rank (get_or pick r 0) i) × (under e up rank (get_or pick r 0) i < get_or rank r 0)

-- each class has a rank above its arguments'; or no good label is the same over the classes
abbrev pub Settled : List ℕ → List ℕ → List ℕ → List ℕ → List ℕ → Bool → Type 0
Settled w e up pick rank true = (r i : ℕ) → r < length w → get_or up r 0 ≡ r → i < arity_of (get_or w (get_or pick r 0) 0) → under e up rank (get_or pick r 0) i < get_or rank r 0
Settled w e up pick rank false = (f : Label) → Good w e f → Agree f up → ⊥
