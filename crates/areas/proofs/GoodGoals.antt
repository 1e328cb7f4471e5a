-- The next goal is a good goal: of formulas with symbols and arities in the table's ranges, numbered, and where it fits the room within its sizes.
use Rattle.std.specs.Prelude.{ℕ, zero, suc, ◌+◌, ◌≤◌, ◌<◌, ◌≡◌, true, [], ◌∷◌, ◌++◌, length}
use Rattle.std.proofs.Common.{arith, zero-add, add-zero, add_comm, subst}
use Rattle.std.proofs.Math.Option.{some}
use Rattle.terms.specs.Node.{Symbol, constant, compound, predicate, arity, var, sym, Expr}
use Rattle.terms.specs.Row.{Row, row_end, row_var, row_sym, Every, Formulas}
use Rattle.terms.specs.Subst.{Subst, Proper, apply, MostGeneral}
use Rattle.terms.specs.Substitution.{Function, Symbols, Atomic, atomic}
use Rattle.terms.specs.Rename.{rename}
use Rattle.terms.specs.Number.{Numbered}
use Rattle.terms.specs.SubstLaws.{apply-row}
use Rattle.terms.specs.RenameLaws.{rename-row}
use Rattle.search.specs.Next.{Clause, Book, Goal, First, Resolved, Next}
use Rattle.search.specs.Step.{next}
use Rattle.search.specs.Room.{fits, fits_iff}
use Rattle.search.specs.Run.{goal_at}
use Rattle.search.specs.Resolution.{Atomics, AtomicClauses}
use Rattle.search.proofs.NextLaws.{resolved-every}
use Rattle.search.proofs.NextTheorem.{next_iff}
use Rattle.search.proofs.PathLaws.{path-holds, step-goal, path-numbered}
use Rattle.words.specs.Flat.{flat, flat-size}
use Rattle.format.specs.Reading.{next_unused}
use Rattle.format.specs.Format.{Terms, terms_none, terms_var, terms_constant, terms_compound, IsFormula, formula, AreFormulas, Below, GoodClauses, GoodBook, GoodGoal}
use Rattle.format.proofs.Taken.{next-unused-small}
use Rattle.format.proofs.Numbering.{Ordered, ordered}
use Rattle.format.proofs.Premises.{formula-row, book-clauses}
use Rattle.areas.proofs.SymbolLaws.{symbols-rename, symbols-apply, general-symbols}

-- the symbols of terms: no predicate, and in the ranges of the table of records
abbrev pub TermSymbol : Symbol → Type 0
TermSymbol (constant c) = c < 65536
TermSymbol (compound f a) = (f < 65536) × (1 ≤ a) × (a ≤ 8)
TermSymbol (predicate p a) = ⊥

-- a formula with symbols and arities in the table's ranges, whatever its variables
pub data Tabled : Expr → Type 0 where
  tabled : {p a : ℕ} {e : Expr} → p < 65536 → a ≤ 8 → Row a e → Symbols TermSymbol e → Tabled (sym (predicate p a) ∷ e)

abbrev pub AllTabled : Goal → Type 0
AllTabled g = Every Tabled g

terms-only : {n : ℕ} {e : Expr} → Terms n e → Symbols TermSymbol e
terms-only terms_none = tt
terms-only (terms_var w t) = terms-only t
terms-only (terms_constant w t) = (w, terms-only t)
terms-only (terms_compound w p q t) = ((w, p, q), terms-only t)

arguments : {s : Symbol} {e : Expr} → Row 1 (sym s ∷ e) → Row (arity s) e
arguments (row_sym r) = rw add-zero at r

formula-tabled : {f : Expr} → IsFormula f → Tabled f
formula-tabled (formula {p = p} {a = a} w q t) = tabled w q (arguments {s = predicate p a} (formula-row (formula w q t))) (terms-only t)

pub formulas-tabled : (g : Goal) → AreFormulas g → AllTabled g
formulas-tabled [] p = tt
formulas-tabled (f ∷ g) p = (formula-tabled p.0, formulas-tabled g p.1)

-- Renamed, substituted, numbered: still in the ranges.

pub tabled-rename : (ρ : ℕ → ℕ) (f : Expr) → Tabled f → Tabled (rename ρ f)
tabled-rename ρ f (tabled {e = e} w q r o) = tabled w q (rename-row ρ r) (symbols-rename TermSymbol ρ e o)

tabled-apply : (σ : Subst) → Proper σ → ((v : ℕ) → Symbols TermSymbol (σ v)) → (f : Expr) → Tabled f → Tabled (apply σ f)
tabled-apply σ proper all f (tabled {e = e} w q r o) = tabled w q (apply-row σ proper r) (symbols-apply TermSymbol σ all e o)

tabled-row : {f : Expr} → Tabled f → Row 1 f
tabled-row (tabled {p = p} {a = a} {e = e} w q r o) = row_sym {n = 0} {s = predicate p a} {e = e} (rw add-zero r)

pub tabled-formulas : (g : Goal) → AllTabled g → Formulas g
tabled-formulas [] p = tt
tabled-formulas (f ∷ g) p = (tabled-row p.0, tabled-formulas g p.1)

-- a most general unifier of two such formulas puts terms with such symbols for variables
pub unifier-tabled : {f d : Expr} → Tabled f → Tabled d → (σ : Subst) → MostGeneral σ f d → (v : ℕ) → Symbols TermSymbol (σ v)
unifier-tabled (tabled {p = p} {a = n} {e = a} w q r o) (tabled {p = p'} {a = n'} {e = b} w' q' r' o') σ m =
    general-symbols TermSymbol (predicate p n) (predicate p' n') a b (tabled-row (tabled w q r o)) (tabled-row (tabled w' q' r' o')) o o' σ m

resolved-tabled : (f : Expr) (g : Goal) (c : Clause) (h : Goal) → Tabled f → AllTabled g → AllTabled (c.head ∷ c.body) → Resolved f g c h → AllTabled h
resolved-tabled f g c h first rest clause t =
    let terms = unifier-tabled (tabled-rename t.goal_names f first) (tabled-rename t.clause_names c.head clause.0) t.unifier t.general in
    resolved-every Tabled tabled-rename f g c h clause.1 rest t (tabled-apply t.unifier t.general.unifies.0 terms)

pub first-tabled : (P : Book) (f : Expr) (k : ℕ) (c : Clause) → GoodClauses P → First f P k c → AllTabled (c.head ∷ c.body)
first-tabled (d ∷ P) f zero c good p = subst (λ e. AllTabled (e.head ∷ e.body)) p.0 (formulas-tabled (d.head ∷ d.body) good.0.formulas)
first-tabled (d ∷ P) f (suc k) c good p = first-tabled P f k c good.1 p.1
first-tabled [] f k c good p = elim p [ ]

pub next-tabled : (P : Book) → GoodClauses P → (g : Goal) → AllTabled g → (k : ℕ) (h : Goal) → Next P g k h → AllTabled h
next-tabled P good (f ∷ g) p k h n = resolved-tabled f g n.0 h p.0 p.1 (first-tabled P f k n.0 good n.1) n.2
next-tabled P good [] p k h n = elim n [ ]

-- From the ranges to formulas: a variable is at most as high as there are nodes.

pub ordered-below : (k u : ℕ) (e : Expr) → Ordered u e → u + length e ≤ k → Below k e
ordered-below k u [] o h = tt
ordered-below k u (var v ∷ e) o h = (omega (arith, o.0), ordered-below k (next_unused u v) e o.1 (omega (arith, next-unused-small u v)))
ordered-below k u (sym s ∷ e) o h = ordered-below k u e o (omega arith)

below_left : (n : ℕ) (a b : Expr) → Below n (a ++ b) → Below n a
below_left n [] b p = tt
below_left n (var v ∷ a) b p = (p.0, below_left n a b p.1)
below_left n (sym s ∷ a) b p = below_left n a b p

below_right : (n : ℕ) (a b : Expr) → Below n (a ++ b) → Below n b
below_right n [] b p = p
below_right n (var v ∷ a) b p = below_right n a b p.1
below_right n (sym s ∷ a) b p = below_right n a b p

terms_of : (e : Expr) {n : ℕ} → Row n e → Symbols TermSymbol e → Below 65536 e → Terms n e
terms_of [] row_end o b = terms_none
terms_of (var v ∷ e) (row_var r) o b = terms_var b.0 (terms_of e r o b.1)
terms_of (sym (constant c) ∷ e) (row_sym r) o b = terms_constant o.0 (terms_of e (rw zero-add at r) o.1 b)
terms_of (sym (compound f a) ∷ e) (row_sym {n = n} r) o b = terms_compound o.0.0 o.0.1 o.0.2 (terms_of e (rw (add_comm a n) at r) o.1 b)
terms_of (sym (predicate p a) ∷ e) r o b = absurd o.0

formula_of : (f : Expr) → Tabled f → Below 65536 f → IsFormula f
formula_of f (tabled {e = e} w q r o) b = formula w q (terms_of e r o b)

formulas-of : (g : Goal) → AllTabled g → Below 65536 (flat g) → AreFormulas g
formulas-of [] p b = tt
formulas-of (f ∷ g) p b = (formula_of f p.0 (below_left 65536 f (flat g) b), formulas-of g p.1 (below_right 65536 f (flat g) b))

good_of : (g : Goal) → AllTabled g → Numbered g → fits g ≡ true → GoodGoal g
good_of g p n f =
    let room = (fits_iff g).0 f in
    let below = ordered-below 65536 0 (flat g) (ordered g n) (omega (arith, flat-size g, room.1)) in
    record { few = room.0; formulas = formulas-of g p below; fitting = record { size = room.1; below = below; numbered = n } }

-- So document 000's resolution is what takes a good goal to the next: its formulas are that document's.

functions : (e : Expr) → Symbols TermSymbol e → Symbols Function e
functions [] p = tt
functions (var v ∷ e) p = functions e p
functions (sym (constant c) ∷ e) p = (tt, functions e p.1)
functions (sym (compound f a) ∷ e) p = (tt, functions e p.1)
functions (sym (predicate q a) ∷ e) p = absurd p.0

tabled-atomic : (f : Expr) → Tabled f → Atomic f
tabled-atomic f (tabled {e = e} w q r o) = atomic r (functions e o)

tabled-atomics : (g : Goal) → AllTabled g → Atomics g
tabled-atomics [] p = tt
tabled-atomics (f ∷ g) p = (tabled-atomic f p.0, tabled-atomics g p.1)

pub goal-atomics : (g : Goal) → GoodGoal g → Atomics g
goal-atomics g good = tabled-atomics g (formulas-tabled g good.formulas)

clauses-atomic : (P : Book) → GoodClauses P → AtomicClauses P
clauses-atomic [] p = tt
clauses-atomic (c ∷ P) p = (tabled-atomics (c.head ∷ c.body) (formulas-tabled (c.head ∷ c.body) p.0.formulas), clauses-atomic P p.1)

pub book-atomic : (P : Book) → GoodBook P → AtomicClauses P
book-atomic P good = clauses-atomic P good.clauses

-- The theorems, of a good book and a good query.
module _ (P : Book) (good_book : GoodBook P) (q : Goal) (good_query : GoodGoal q) where
  pub path-tabled : (t : ℕ) (g : Goal) → goal_at P q t ≡ some g → AllTabled g
  path-tabled =
      path-holds AllTabled P
      (λ g h p e. let s = step-goal (next P g) h e in next-tabled P good_book.clauses g p s.0 h ((next_iff P (book-clauses P good_book) g (tabled-formulas g p) s.0 h).1 s.1))
      q (formulas-tabled q good_query.formulas)

  -- every goal of the path that has room is a good goal
  pub path-good : (t : ℕ) (g : Goal) → goal_at P q t ≡ some g → fits g ≡ true → GoodGoal g
  path-good t g e f = good_of g (path-tabled t g e) (path-numbered P q good_query.fitting.numbered t g e) f
