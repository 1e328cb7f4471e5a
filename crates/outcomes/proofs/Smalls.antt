-- The figures of a code are small: a clause's number is below the book's, an argument is one of a formula that is held.
use Prim.Native.Nat.{ℕ, ◌≤◌}
use native.Mathlib.Omega.{arith}
use native.Mathlib.Decide.{dec_lt, ℕ_discrete}
use mathlib.Core.Path.{◌≡◌, refl, sym as inv, ap, ◌∙◌, subst}
use mathlib.Core.List.{List, [], ◌∷◌}
use lib.ListN.{length}
use Rattle.terms.specs.Node.{Expr}
use Rattle.terms.specs.Row.{Row}
use Rattle.search.specs.Next.{Clause, Book, Goal, clause_at}
use Rattle.search.specs.Fail.{failing}
use Rattle.search.proofs.FailLaws.{Failing, other, meets, fails, failing-says}
use Rattle.search.specs.Furthest.{Figures, furthest, stuck_figures, figures, figures_22, figures-other}
use Rattle.search.proofs.FurthestLaws.{Best, furthest-best}
use Rattle.words.specs.Held.{GoalIn, BookOn}
use Rattle.words.specs.HeldLaws.{first-length}
use Rattle.outcomes.proofs.Stuck.{arguments-fit}

number_small : {f : Expr} {c : Clause} {k : ℕ} → Row 1 f → Failing f c k → k ≤ length f
number_small r (other s t a b p q n) = omega arith
number_small r (meets m) = omega arith
number_small {f} r (fails t) = omega (arith, t.within, arguments-fit t.predicate t.ours (subst (Row 1) t.formula r), ap length t.formula)

-- what both figures are below
pub record Small (w : Figures) : Type 0 where
  pub clause : w.clause ≤ 512
  pub argument : w.argument ≤ 4096

module _ {book shelf goal : List ℕ} {n : ℕ} (P : Book) (b : BookOn book shelf P) where
  pub furthest-small : (f : Expr) (g : Goal) → GoalIn goal n (f ∷ g) → Small (furthest P f)
  furthest-small f g p = elim (dec_lt 0 (furthest P f).argument) [
    | yes l ↦
        let h = best.here l in
        let c = (b.held.placed (furthest P f).clause h.0).clause in
        let k = number_small p.formulas.0 (failing-says f (clause_at P (furthest P f).clause) p.atoms.0 c.atoms.0 p.formulas.0 c.formulas.0) in
        record { clause = omega (arith, h.0, b.held.few); argument = omega (arith, h.1, k, first-length goal n f g p (length f) refl, p.size) }
    | no l ↦ record { clause = omega (arith, best.bare (omega arith)); argument = omega arith }
  ]
    where
      best : Best (λ j. failing f (clause_at P j)) (length P) (furthest P f)
      best = furthest-best P f

  pub figures-small : (code : ℕ) (g : Goal) → GoalIn goal n g → Small (figures P code g)
  figures-small code g p = elim (ℕ_discrete code 22) [
    | yes e ↦ subst Small (inv (ap (λ c. figures P c g) e ∙ figures_22 P g)) (of-goal g p)
    | no d ↦ subst Small (inv (figures-other P code g d)) (record { clause = omega arith; argument = omega arith })
  ]
    where
      of-goal : (g : Goal) → GoalIn goal n g → Small (stuck_figures P g)
      of-goal [] p = record { clause = omega arith; argument = omega arith }
      of-goal (f ∷ g) p = furthest-small f g p

-- a search that ends so
pub small_is : {w v : Figures} → w ≡ v → Small w → Small v
small_is e s = subst Small e s
