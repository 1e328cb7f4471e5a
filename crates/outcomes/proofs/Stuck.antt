-- Why a goal is stuck, of a good book: what its figures say (document 02, C-19).
use Rattle.std.specs.Prelude.{◌≤◌, length, ◌≡◌, [], ◌∷◌}
use Rattle.std.proofs.Common.{add-zero, sym as inv, ◌∙◌, inl, inr}
use Rattle.std.proofs.Math.Option.{none-ne-some, some-injective}
use Rattle.terms.specs.Node.{Symbol, arity, var, sym, Expr}
use Rattle.terms.specs.Row.{Row, row_sym, Atom, atom}
use Rattle.terms.specs.RowLaws.{row-long}
use Rattle.search.specs.Next.{Book, Clauses, NoneMeets}
use Rattle.search.specs.Known.{Alike, Known}
use Rattle.search.specs.KnownLaws.{AtomHeads}
use Rattle.search.specs.Furthest.{Figures, Furthest, furthest}
use Rattle.search.proofs.FurthestLaws.{furthest-says, furthest-one}
use Rattle.format.specs.Format.{IsFormula, formula, GoodClauses, GoodBook}

formula-atom : {f : Expr} → IsFormula f → Atom f
formula-atom (formula w q t) = atom

clauses-heads : (P : Book) → GoodClauses P → AtomHeads P
clauses-heads [] g = tt
clauses-heads (c ∷ P) g = (formula-atom g.0.formulas.0, clauses-heads P g.1)

pub good-heads : (P : Book) → GoodBook P → AtomHeads P
good-heads P good = clauses-heads P good.clauses

-- there are as many arguments as the arity says
pub arguments-fit : (s : Symbol) (a : Expr) → Row 1 (sym s ∷ a) → arity s ≤ length a
arguments-fit s a (row_sym r) = row-long (rw add-zero at r)

-- a formula of a predicate that the book knows begins with that predicate
alike-atom : (f : Expr) {h : Expr} → Atom h → Alike f h → Atom f
alike-atom [] a x = absurd (none-ne-some x.predicate x.formula)
alike-atom (var v ∷ f) a x = absurd (none-ne-some x.predicate x.formula)
alike-atom (sym s ∷ f) (atom {p} {n}) x = rw (some-injective s _ (x.formula ∙ inv x.head)) atom

known-atom : (P : Book) (f : Expr) → AtomHeads P → Known P f → Atom f
known-atom (c ∷ P) f h (inl a) = alike-atom f h.0 a
known-atom (c ∷ P) f h (inr k) = known-atom P f h.1 k
known-atom [] f h x'' = elim x'' [ ]

module _ (P : Book) (heads : AtomHeads P) (clauses : Clauses P) (f : Expr) (row : Row 1 f) (known : Known P f) where
  pub stuck-says : NoneMeets f P → Furthest P f (furthest P f)
  stuck-says none = furthest-says P f (known-atom P f heads known) row heads clauses none known

  pub stuck-one : (w : Figures) → Furthest P f w → furthest P f ≡ w
  stuck-one w x = inv (furthest-one P f (known-atom P f heads known) row heads clauses w x)
