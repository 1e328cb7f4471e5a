-- The next goal in document 000's own words (1.3, with its renamings, substitutions and most general unifiers of 1.2): "Suppose that C = A ← B1, .., Bm is a clause
-- in P such that Ai, called the selected atom, unifies with A with a mgu θ. Then G' = ← (A1, .., Ai−1, B1, .., Bm, Ai+1, .., An)θ is called the resolvent of G and C."
-- The clause is taken as a variant that shares no variable with the goal. ResolutionLaws has that this is the relation Next.
use Rattle.std.specs.Prelude.{ℕ, zero, suc, ◌≡◌, List, [], ◌∷◌, ◌++◌, map}
use Rattle.terms.specs.Node.{Expr}
use Rattle.terms.specs.Row.{Every}
use Rattle.terms.specs.Subst.{InAny, Subst, apply}
use Rattle.terms.specs.Substitution.{Atomic, Unifier, Mgu}
use Rattle.terms.specs.Renaming.{Renaming}
use Rattle.terms.specs.Number.{number_all}
use Rattle.search.specs.Next.{Clause, Book, Goal}

-- a goal of atomic formulas
abbrev pub Atomics : Goal → Type 0
Atomics g = Every Atomic g

-- a book of such clauses
abbrev pub AtomicClauses : Book → Type 0
AtomicClauses [] = Unit {0}
AtomicClauses (c ∷ P) = Atomics (c.head ∷ c.body) × AtomicClauses P

-- the renaming ρ makes of h a variant that "does not have a variable in common" with g: "This condition is called the standardization apart"
pub record Standard (ρ : Subst) (g h : List Expr) : Type 0 where
  pub renaming : Renaming ρ
  pub apart : (v : ℕ) → InAny v g → InAny v (map (apply ρ) h) → ⊥

-- the formula f unifies with the head of c
pub record UnifiesWith (f : Expr) (c : Clause) : Type 0 where
  pub names : Subst
  pub standard : Standard names (f ∷ []) (c.head ∷ [])
  pub substitution : Subst
  pub unifier : Unifier substitution f (apply names c.head)

-- c is the clause number k of the book, and the first whose head unifies with f
abbrev pub FirstUnifying : Expr → Book → ℕ → Clause → Type 0
FirstUnifying f [] k c = ⊥
FirstUnifying f (d ∷ P) zero c = (d ≡ c) × UnifiesWith f c
FirstUnifying f (d ∷ P) (suc k) c = (UnifiesWith f d → ⊥) × FirstUnifying f P k c

-- h is the resolvent of the goal of f and g, with f selected, and of c, numbered anew
pub record Resolvent (f : Expr) (g : Goal) (c : Clause) (h : Goal) : Type 0 where
  pub names : Subst
  pub standard : Standard names (f ∷ g) (c.head ∷ c.body)
  pub mgu : Subst
  pub general : Mgu mgu f (apply names c.head)
  pub result : h ≡ number_all [] (map (apply mgu) (map (apply names) c.body ++ g))

-- h is derived from the goal in one step, by the clause number k, the first that can be taken
abbrev pub Derived : Book → Goal → ℕ → Goal → Type 0
Derived P [] k h = ⊥
Derived P (f ∷ g) k h = (c : Clause) × FirstUnifying f P k c × Resolvent f g c h
