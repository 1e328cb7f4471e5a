-- From the choice of a clause to the pick.
use Prim.Native.Nat.{ℕ, ◌-◌}
use native.Mathlib.Omega.{arith}
use mathlib.Core.Path.{◌≡◌, refl, sym as inv, ap, ◌∙◌, subst}
use mathlib.Core.List.{List, [], ◌∷◌}
use Rattle.terms.specs.Node.{Expr}
use Rattle.search.specs.Next.{Book, Goal, First, clause_at}
use Rattle.search.specs.Furthest.{Figures, no_figures, figures, figures_22, figures-other}
use Rattle.search.specs.Pick.{Pick, no_pick, pick, chosen_25}
use Rattle.search.specs.Pick as Pick
use Rattle.search.proofs.PickLaws.{pick_iff}
use Rattle.words.specs.Held.{GoalIn, BookOn}
use Rattle.words.specs.HeldLaws.{clauses-of}
use Rattle.resolve.specs.declared.Choice.{Choice}
use Rattle.resolve.specs.Advancing.{Chosen, fits_first, none_fits, not_known}
use Rattle.outcomes.specs.declared.Picked.{Picked}
use Rattle.outcomes.specs.Outcome.{picked_as, pick_said}

-- a pick by a choice, and its figures
abbrev pub pick_of : Choice → Pick
pick_of (Choice.Clause i) = record { code = 25; clause = i }
pick_of (Choice.Stuck k a) = record { code = 22; clause = 0 }
pick_of Choice.Unknown = record { code = 26; clause = 0 }

abbrev pub figures_of : Choice → Figures
figures_of (Choice.Clause i) = no_figures
figures_of (Choice.Stuck k a) = record { clause = k; argument = a }
figures_of Choice.Unknown = no_figures

from_first : (P : Book) (f : Expr) (i : ℕ) → First f P (i - 0) (clause_at P i) → First f P i (clause_at P i)
from_first P f i x = let z : i - 0 ≡ i = omega arith in subst (λ k. First f P k (clause_at P i)) z x

module _ {book shelf goal words rows : List ℕ} {n : ℕ} (P : Book) (f : Expr) (g : Goal) (b : BookOn book shelf P) (w : GoalIn goal n (f ∷ g)) where
  pub pick_chosen : (c : Choice) → Chosen P f goal book shelf words rows c → pick P (f ∷ g) ≡ pick_of c
  pick_chosen c x = (pick_iff P (clauses-of b.held) (f ∷ g) w.formulas (pick_of c)).1 (go c x)
    where
      go : (c : Choice) → Chosen P f goal book shelf words rows c → Pick.Picks P (f ∷ g) (pick_of c)
      go c (fits_first {i = i} p l m) = chosen_25 f g i (clause_at P i) refl (from_first P f i (p.found l))
      go c (none_fits e k w) = Pick.stuck_22 f g refl e k
      go c (not_known e k) = Pick.unknown_26 f g refl e k

  figures-chosen : (c : Choice) → Chosen P f goal book shelf words rows c → figures P (pick_of c).code (f ∷ g) ≡ figures_of c
  figures-chosen c (fits_first p l m) = figures-other P 25 (f ∷ g) (λ z. omega arith)
  figures-chosen c (none_fits e k w) = figures_22 P (f ∷ g) ∙ w
  figures-chosen c (not_known e k) = figures-other P 26 (f ∷ g) (λ z. omega arith)

  -- where it is known which of the three the choice is
  pub pick_as : {r : Picked} (c d : Choice) → c ≡ d → r ≡ picked_as (figures_of d) (pick_of d) → Chosen P f goal book shelf words rows c → r ≡ pick_said P (f ∷ g) (pick P (f ∷ g))
  pick_as c d e q x =
      q ∙ ap (λ z. picked_as (figures_of z) (pick_of z)) (inv e) ∙ ap (λ w. picked_as w (pick_of c)) (inv (figures-chosen c x)) ∙ ap (pick_said P (f ∷ g)) (inv (pick_chosen c x))

-- A goal that may be empty
module _ {book shelf w : List ℕ} {n : ℕ} where
  pub pick-empty : n ≡ 0 → {r : Picked} → r ≡ picked_as no_figures (no_pick 20) → (P : Book) (g : Goal) → BookOn book shelf P → GoalIn w n g → r ≡ pick_said P g (pick P g)
  pick-empty z q P [] b h = q ∙ ap (λ w. picked_as w (no_pick 20)) (inv (figures-other P 20 [] (λ e. omega arith)))
  pick-empty z q P (f ∷ g) b h = absurd (omega (arith, h.count))

  pub pick-formula : (n ≡ 0 → ⊥) → {r : Picked} → ((P : Book) (f : Expr) (g : Goal) (m : ℕ) → BookOn book shelf P → GoalIn w m (f ∷ g) → r ≡ pick_said P (f ∷ g) (pick P (f ∷ g))) →
      (P : Book) (g : Goal) → BookOn book shelf P → GoalIn w n g → r ≡ pick_said P g (pick P g)
  pick-formula z all P [] b h = absurd (z h.count)
  pick-formula z all P (f ∷ g) b h = all P f g n b h

-- a goal that is not empty
pub some-formula : {w : List ℕ} {n : ℕ} → (n ≡ 0 → ⊥) → (g : Goal) × GoalIn w n g → (f : Expr) × (g : Goal) × GoalIn w n (f ∷ g)
some-formula {w} {n} z p = go p.0 p.1
  where
    go : (g : Goal) → GoalIn w n g → (f : Expr) × (g : Goal) × GoalIn w n (f ∷ g)
    go [] h = absurd (z h.count)
    go (f ∷ g) h = (f, g, h)
