-- `next` computes the next goal, and there is no other.
use Rattle.std.specs.Prelude.{ℕ, ◌≡◌, ◌↔◌, [], ◌∷◌}
use Rattle.std.proofs.Common.{arith}
use Rattle.std.proofs.Math.Option.{none}
use Rattle.terms.specs.Node.{Expr}
use Rattle.terms.specs.Row.{Row, Formulas}
use Rattle.search.specs.Next.{Book, Goal, Clauses, NoneMeets, Next}
use Rattle.search.specs.Step.{choice, stuck, to, next, next_goal}
use Rattle.search.proofs.NextLaws.{choice-found, move-is-next, next-is-move, stuck-is-none, first-formulas, move-stuck, resolved-formulas}

-- The theorems, for a book and a goal of formulas.
module _ (P : Book) (good : Clauses P) where
  -- `next` computes the next goal, and there is no other
  pub next_iff : (g : Goal) → Formulas g → (k : ℕ) (h : Goal) → Next P g k h ↔ (next P g ≡ to k h)
  next_iff [] goal k h = ((λ n. absurd n), (λ p. let z : ◌≡◌ {A = ℕ} 0 1 = cc in absurd (omega arith)))
  next_iff (f ∷ g) goal k h = let m = choice-found f goal.0 P good in (next-is-move P f g (choice P f) m k h, move-is-next P f g (choice P f) m k h)

  -- it is stuck just when no head unifies with the first formula
  pub stuck_iff : (f : Expr) (g : Goal) → Row 1 f → (next P (f ∷ g) ≡ stuck) ↔ NoneMeets f P
  stuck_iff f g r = stuck-is-none P f g (choice P f) (choice-found f r P good)

  -- so where there is no next goal no head does
  pub no-next : (f : Expr) (g : Goal) → Row 1 f → next_goal P (f ∷ g) ≡ none → NoneMeets f P
  no-next f g r e = (stuck_iff f g r).0 (move-stuck (choice P f) g e)

  -- the next goal is of formulas
  pub next-formulas : (g : Goal) → Formulas g → (k : ℕ) (h : Goal) → next P g ≡ to k h → Formulas h
  next-formulas [] goal k h p = let z : ◌≡◌ {A = ℕ} 0 1 = cc in absurd (omega arith)
  next-formulas (f ∷ g) goal k h p =
      let t = (next_iff (f ∷ g) goal k h).1 p in
      resolved-formulas f g t.0 h (first-formulas P f k t.0 good t.1).1 goal.1 t.2
