-- Terms, formulas, substitutions and most general unifiers in document 000's own words (1.2.1 to 1.2.3). That the wider notions of Subst, by which the search is
-- defined, come to the same is in MguLaws.
use Rattle.std.specs.Prelude.{ℕ, ◌≤◌, ◌≡◌, [], ◌∷◌}
use Rattle.terms.specs.Node.{Symbol, constant, compound, predicate, var, sym, Expr}
use Rattle.terms.specs.Row.{Row}
use Rattle.terms.specs.Subst.{Subst, apply, itself}

-- "set of functions", those of arity 0 being the constants, apart from the "set of predicates"
abbrev pub Function : Symbol → Type 0
Function (constant c) = Unit {0}
Function (compound f n) = Unit {0}
Function (predicate p n) = ⊥

-- each symbol of e has Q
abbrev pub Symbols : (Symbol → Type 0) → Expr → Type 0
Symbols Q [] = Unit {0}
Symbols Q (var v ∷ e) = Symbols Q e
Symbols Q (sym s ∷ e) = Q s × Symbols Q e

-- "a variable is a term; a constant is a term; if f is a n-ary function and if t1, .., tn are terms then f(t1, .., tn) is a term"
abbrev pub Term : Expr → Type 0
Term e = Row 1 e × Symbols Function e

-- "If p is an n-ary predicate and t1, .., tn are terms then p(t1, .., tn) is an atomic formula"
pub data Atomic : Expr → Type 0 where
  atomic : {p n : ℕ} {e : Expr} → Row n e → Symbols Function e → Atomic (sym (predicate p n) ∷ e)

-- "A substitution θ is a finite set of the form {x1/t1, .., xn/tn} where .. each ti is a term": so each variable from some number on stands for itself
pub record Substitution (σ : Subst) : Type 0 where
  pub terms : (v : ℕ) → Term (σ v)
  pub bound : ℕ
  pub finite : (v : ℕ) → bound ≤ v → σ v ≡ itself v

-- "A substitution θ is called an unifier of two expressions E and F iff it verifies Eθ = Fθ"
pub record Unifier (σ : Subst) (a b : Expr) : Type 0 where
  pub substitution : Substitution σ
  pub equal : apply σ a ≡ apply σ b

-- "A substitution θ is more general than a substitution θ' if for some substitution γ we have θγ = θ'"
abbrev pub MoreGeneral : Subst → Subst → Type 0
MoreGeneral σ θ = (γ : Subst) × Substitution γ × ((v : ℕ) → θ v ≡ apply γ (σ v))

-- "It is called a most general unifier (mgu) of E and F if it is more general than any other unifier of E and F"
pub record Mgu (σ : Subst) (a b : Expr) : Type 0 where
  pub unifier : Unifier σ a b
  pub general : (θ : Subst) → Unifier θ a b → MoreGeneral σ θ
