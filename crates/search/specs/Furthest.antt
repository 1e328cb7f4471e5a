-- Why a goal is stuck (document 02, C-19): "the clause that got furthest (lowest number on equal counts)" and the argument at which its head fails.
use Rattle.std.specs.Prelude.{ℕ, suc, ◌≤◌, ◌<◌, ◌≡◌, refl, Bool, true, false, [], ◌∷◌, leb, eqb, length}
use Rattle.std.proofs.Common.{ne_eqb}
use Rattle.terms.specs.Node.{Expr}
use Rattle.terms.specs.When.{◌⇒◌∣◌}
use Rattle.search.specs.Next.{Book, Goal, clause_at}
use Rattle.search.specs.Fail.{FailsAt, failing}

pub record Figures : Type 0 where
  pub clause : ℕ
  pub argument : ℕ

-- "With every code but 22 these two figures are 0"
abbrev pub no_figures : Figures
no_figures = record { clause = 0; argument = 0 }

-- the clause w .clause fails against f at the argument w .argument; no clause of that predicate and arity fails later, and none before it fails as late
pub record Furthest (P : Book) (f : Expr) (w : Figures) : Type 0 where
  pub within : w.clause < length P
  pub fails : FailsAt f (clause_at P w.clause) w.argument
  pub latest : (j k : ℕ) → j < length P → FailsAt f (clause_at P j) k → k ≤ w.argument
  pub lowest : (j k : ℕ) → j < w.clause → FailsAt f (clause_at P j) k → k < w.argument

-- The same computed, from the last clause to the first.

-- a clause that fails at the argument k before clauses of which w got furthest: it is as far, or not
abbrev pub before : Bool → ℕ → Figures → Figures
before true k w = record { clause = 0; argument = k }
before false k w = record { clause = suc w.clause; argument = w.argument }

unfoldable pub furthest : Book → Expr → Figures
furthest [] f = no_figures
furthest (c ∷ P) f = before (leb (furthest P f).argument (failing f c)) (failing f c) (furthest P f)

-- of the leftmost formula of a goal
abbrev pub stuck_figures : Book → Goal → Figures
stuck_figures P [] = no_figures
stuck_figures P (f ∷ g) = furthest P f

-- the figures of a code: "With every code but 22 these two figures are 0"
unfoldable pub figures : Book → ℕ → Goal → Figures
figures P code g = eqb code 22 ⇒ stuck_figures P g ∣ no_figures

pub figures_22 : (P : Book) (g : Goal) → figures P 22 g ≡ stuck_figures P g
unfolding figures
figures_22 P g = refl

pub figures-other : (P : Book) (code : ℕ) (g : Goal) → ¬ (code ≡ 22) → figures P code g ≡ no_figures
unfolding figures
figures-other P code g n = rw (ne_eqb code 22 n) refl
