-- What the theorems of the crate `search` ask of a book and a query follows from their being good.
use Prim.Native.Nat.{ℕ}
use native.Mathlib.Nat.{zero-add, add-zero, add_comm}
use borrow.Author.Tests.{le-leb}
use mathlib.Core.Path.{◌≡◌}
use mathlib.Core.Bool.{true}
use mathlib.Core.List.{[], ◌∷◌}
use lib.ListN.{length}
use Rattle.terms.specs.Node.{constant, compound, predicate, Expr}
use Rattle.terms.specs.Row.{Row, row_end, row_var, row_sym, Formulas}
use Rattle.terms.specs.Number.{Numbered}
use Rattle.search.specs.Next.{Book, Goal, Clauses}
use Rattle.search.specs.Room.{nodes, fits}
use Rattle.format.specs.Format.{Terms, terms_none, terms_var, terms_constant, terms_compound, IsFormula, formula, AreFormulas, GoodClauses, GoodBook, GoodGoal}

terms-row : {n : ℕ} {e : Expr} → Terms n e → Row n e
terms-row terms_none = row_end
terms-row (terms_var w t) = row_var (terms-row t)
terms-row (terms_constant {n = n} {c = c} {e = e} w t) = row_sym {n = n} {s = constant c} {e = e} (rw zero-add (terms-row t))
terms-row (terms_compound {n = n} {f = f} {a = a} {e = e} w p q t) = row_sym {n = n} {s = compound f a} {e = e} (rw (add_comm a n) (terms-row t))

pub formula-row : {f : Expr} → IsFormula f → Row 1 f
formula-row (formula {p = p} {a = a} {e = e} w q t) = row_sym {n = 0} {s = predicate p a} {e = e} (rw add-zero (terms-row t))

pub formulas-row : (g : Goal) → AreFormulas g → Formulas g
formulas-row [] p = tt
formulas-row (f ∷ g) p = (formula-row p.0, formulas-row g p.1)

clauses-row : (b : Book) → GoodClauses b → Clauses b
clauses-row [] p = tt
clauses-row (c ∷ b) p = (formulas-row (c.head ∷ c.body) p.0.formulas, clauses-row b p.1)

pub book-clauses : (b : Book) → GoodBook b → Clauses b
book-clauses b good = clauses-row b good.clauses

pub goal_premises : (g : Goal) → GoodGoal g → Formulas g × Numbered g × (fits g ≡ true)
unfolding fits
goal_premises g good = (formulas-row g good.formulas, good.fitting.numbered, simp (le-leb (length g) 512 good.few, le-leb (nodes g) 4096 good.fitting.size))
