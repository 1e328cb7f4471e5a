-- Whatever most general unifier is taken of two formulas, it puts terms for variables that have only the symbols of the formulas' arguments: so no predicate comes to stand in
-- a term.
use Rattle.std.specs.Prelude.{ℕ, ◌≡◌, refl, [], ◌∷◌, ◌++◌}
use Rattle.std.proofs.Common.{subst}
use Rattle.std.proofs.Math.Option.{none, some}
use Rattle.terms.specs.Node.{Symbol, var, sym, Expr}
use Rattle.terms.specs.Row.{Row}
use Rattle.terms.specs.Subst.{Subst, apply, MostGeneral}
use Rattle.terms.specs.Substitution.{Symbols}
use Rattle.terms.specs.Rename.{rename}
use Rattle.terms.specs.Unify.{Answer, unify}
use Rattle.terms.proofs.UnifyLaws.{unify-sound, unify-complete}
use Rattle.terms.proofs.FoundLaws.{heads-found}

module _ (Q : Symbol → Type 0) where
  pub symbols-append : (a b : Expr) → Symbols Q a → Symbols Q b → Symbols Q (a ++ b)
  symbols-append [] b p q = q
  symbols-append (var v ∷ a) b p q = symbols-append a b p q
  symbols-append (sym s ∷ a) b p q = (p.0, symbols-append a b p.1 q)

  pub symbols-behind : (a b : Expr) → Symbols Q (a ++ b) → Symbols Q b
  symbols-behind [] b p = p
  symbols-behind (var v ∷ a) b p = symbols-behind a b p
  symbols-behind (sym s ∷ a) b p = symbols-behind a b p.1

  pub symbols-rename : (ρ : ℕ → ℕ) (e : Expr) → Symbols Q e → Symbols Q (rename ρ e)
  symbols-rename ρ [] p = tt
  symbols-rename ρ (var v ∷ e) p = symbols-rename ρ e p
  symbols-rename ρ (sym s ∷ e) p = (p.0, symbols-rename ρ e p.1)

  pub symbols-apply : (σ : Subst) → ((v : ℕ) → Symbols Q (σ v)) → (e : Expr) → Symbols Q e → Symbols Q (apply σ e)
  symbols-apply σ all [] p = tt
  symbols-apply σ all (var v ∷ e) p = symbols-append (σ v) (apply σ e) (all v) (symbols-apply σ all e p)
  symbols-apply σ all (sym s ∷ e) p = (p.0, symbols-apply σ all e p.1)

  -- an instance has all symbols of what it is an instance of
  symbols_instance : (γ : Subst) (e : Expr) → Symbols Q (apply γ e) → Symbols Q e
  symbols_instance γ [] p = tt
  symbols_instance γ (var v ∷ e) p = symbols_instance γ e (symbols-behind (γ v) (apply γ e) p)
  symbols_instance γ (sym s ∷ e) p = (p.0, symbols_instance γ e p.1)

  -- what is found is an instance of σ
  pub general-symbols : (s r : Symbol) (a b : Expr) → Row 1 (sym s ∷ a) → Row 1 (sym r ∷ b) → Symbols Q a → Symbols Q b
      → (σ : Subst) → MostGeneral σ (sym s ∷ a) (sym r ∷ b) → (v : ℕ) → Symbols Q (σ v)
  general-symbols s r a b ra rb p q σ m = go (unify (sym s ∷ a) (sym r ∷ b)) refl
    where
      go : (x : Answer) → unify (sym s ∷ a) (sym r ∷ b) ≡ x → (v : ℕ) → Symbols Q (σ v)
      go none e v = absurd (unify-complete ra rb e σ m.unifies)
      go (some τ) e v =
          let g = m.general τ (unify-sound ra rb e).unifies in
          symbols_instance g.0 (σ v) (subst (Symbols Q) (g.2 v) ((heads-found Q a b p q s r τ e).symbols v))
