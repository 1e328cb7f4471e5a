-- The goals of the path: each is the next after the one before it, all are of formulas, and all are numbered, so that to be equal is to be essentially the same.
use Rattle.std.specs.Prelude.{ℕ, zero, suc, ◌≡◌, ◌↔◌}
use Rattle.std.proofs.Common.{sym as inv, ap, ◌∙◌, subst}
use Rattle.std.proofs.Math.Option.{some, some-injective}
use mathlib.Core.List.{[], ◌∷◌, head-eq_of_cons-eq}
use Rattle.terms.specs.Node.{Expr}
use Rattle.terms.specs.Row.{Formulas}
use Rattle.terms.specs.Rename.{Variant, Variants}
use Rattle.terms.specs.Number.{number_all, Numbered, canon}
use Rattle.terms.proofs.VariantLaws.{variants_iff, variant_iff}
use Rattle.loops.specs.Path.{path-zero, path-on, path-back}
use Rattle.search.specs.Next.{Book, Goal, Clauses, Next}
use Rattle.search.specs.Step.{Step, solved, stuck, to, next, goal_in, next_goal}
use Rattle.search.specs.StepLaws.{next-numbered}
use Rattle.search.proofs.NextTheorem.{next_iff, next-formulas}
use Rattle.search.specs.Run.{goal_at}

-- what holds of the query, and of each next goal, holds of every goal of the path
pub path-holds : (H : Goal → Type 0) (P : Book) → ((g h : Goal) → H g → next_goal P g ≡ some h → H h)
    → (q : Goal) → H q → (t : ℕ) (g : Goal) → goal_at P q t ≡ some g → H g
path-holds H P keeps q hq zero g e = subst H (some-injective q g (inv (path-zero (next_goal P) q) ∙ e)) hq
path-holds H P keeps q hq (suc t) g e = let b = path-back (next_goal P) t q g e in keeps b.0 g (path-holds H P keeps q hq t b.0 b.1) b.2

-- a step that leads to a goal does so by a clause
pub step-goal : (s : Step) (h : Goal) → goal_in s ≡ some h → (k : ℕ) × (s ≡ to k h)
step-goal solved h e = (0, cc)
step-goal stuck h e = (0, cc)
step-goal (to k g) h e = (k, cc)

module _ (P : Book) (good : Clauses P) (q : Goal) (formulas : Formulas q) where
  pub path-formulas : (t : ℕ) (g : Goal) → goal_at P q t ≡ some g → Formulas g
  path-formulas = path-holds Formulas P (λ g h p e. let s = step-goal (next P g) h e in next-formulas P good g p s.0 h s.1) q formulas

  -- the path goes from a goal to its next goal
  pub path-next : (t : ℕ) (g h : Goal) → goal_at P q t ≡ some g → (goal_at P q (suc t) ≡ some h) ↔ ((k : ℕ) × Next P g k h)
  path-next t g h e = (
    λ p. let s = step-goal (next P g) h (inv (path-on (next_goal P) t q g e) ∙ p) in (s.0, (iff s.0).1 s.1),
    λ n. path-on (next_goal P) t q g e ∙ ap goal_in ((iff n.0).0 n.1),
  )
    where
      iff : (k : ℕ) → Next P g k h ↔ (next P g ≡ to k h)
      iff k = next_iff P good g (path-formulas t g e) k h

pub path-numbered : (P : Book) (q : Goal) → Numbered q → (t : ℕ) (g : Goal) → goal_at P q t ≡ some g → Numbered g
path-numbered P = path-holds Numbered P (λ g h p e. next-numbered P g h e)

-- numbered goals are equal just when they are variants
pub numbered_goals : (g h : Goal) → Numbered g → Numbered h → (g ≡ h) ↔ Variants g h
numbered_goals g h m n = (λ p. (variants_iff g h).0 (ap (number_all []) p), λ s. inv m ∙ (variants_iff g h).1 s ∙ n)

-- and so are their leftmost formulas
pub numbered-leftmost : (a b : Expr) (g h : Goal) → Numbered (a ∷ g) → Numbered (b ∷ h) → (a ≡ b) ↔ Variant a b
numbered-leftmost a b g h m n = (λ p. (variant_iff a b).0 (ap canon p), λ s. inv (head-eq_of_cons-eq m) ∙ (variant_iff a b).1 s ∙ head-eq_of_cons-eq n)

-- on the path of a numbered query, equality of leftmost formulas is equality up to renaming
pub same-leftmost : (P : Book) (q : Goal) → Numbered q → (t u : ℕ) (a b : Expr) (g h : Goal)
    → goal_at P q t ≡ some (a ∷ g) → goal_at P q u ≡ some (b ∷ h) → (a ≡ b) ↔ Variant a b
same-leftmost P q n t u a b g h d e = numbered-leftmost a b g h (path-numbered P q n t (a ∷ g) d) (path-numbered P q n u (b ∷ h) e)
