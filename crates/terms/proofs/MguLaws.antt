-- Document 000's most general unifiers (Substitution) are the most general ones of the search (Subst), whose substitutions may be infinite and may have a formula
-- for a variable; and the unifier that `unify` finds is one of document 000's.
use Rattle.std.specs.Prelude.{ℕ, ◌≤◌, max, ◌≡◌, refl, ◌↔◌, [], ◌∷◌, ◌++◌}
use Rattle.std.proofs.Common.{add-zero, arith, sym as inv, ap, ◌∙◌, subst, inl, inr, append-nil}
use Rattle.std.proofs.Math.Logic.Dec.{and as dec_and}
use Rattle.std.proofs.Math.Option.{none, some}
use Rattle.terms.specs.Node.{Symbol, constant, compound, predicate, var, sym, Expr}
use Rattle.terms.specs.Row.{Row, row_end, row_var, row_sym}
use Rattle.terms.specs.Subst.{In, Subst, Proper, apply, after, itself, Unifies, MostGeneral}
use Rattle.terms.specs.Substitution.{Function, Symbols, Term, Atomic, atomic, Substitution, Unifier, MoreGeneral, Mgu}
use Rattle.terms.specs.Unify.{Answer, unify}
use Rattle.terms.specs.SubstLaws.{apply-row, apply-on, apply-after}
use Rattle.terms.proofs.UnifyLaws.{unify-sound, unify-complete, unify-absorbs}
use Rattle.terms.proofs.FoundLaws.{MadeOf, unify-found, heads-found}

-- a formula is a row of one
pub atomic-row : {e : Expr} → Atomic e → Row 1 e
atomic-row (atomic {p = p} {n = n} {e = e} r t) = row_sym {n = 0} {s = predicate p n} {e = e} (rw add-zero r)

-- The symbols of an instance.

module _ (Q : Symbol → Type 0) where
  symbols-split : (a b : Expr) → Symbols Q (a ++ b) → Symbols Q a × Symbols Q b
  symbols-split [] b p = (tt, p)
  symbols-split (var v ∷ a) b p = symbols-split a b p
  symbols-split (sym s ∷ a) b p = let r = symbols-split a b p.1 in ((p.0, r.0), r.1)

  -- the value of a variable of e is part of what becomes of e
  symbols-value : (γ : Subst) (v : ℕ) (e : Expr) → In v e → Symbols Q (apply γ e) → Symbols Q (γ v)
  symbols-value γ v (var w ∷ e) (inl p) q = subst (λ u. Symbols Q (γ u)) (inv p) (symbols-split (γ w) (apply γ e) q).0
  symbols-value γ v (var w ∷ e) (inr i) q = symbols-value γ v e i (symbols-split (γ w) (apply γ e) q).1
  symbols-value γ v (sym s ∷ e) i q = symbols-value γ v e i q.1
  symbols-value γ v [] i q = elim i [ ]

function? : (s : Symbol) → Dec (Function s)
function? (constant c) = yes tt
function? (compound f n) = yes tt
function? (predicate p n) = no (λ x. x)

functions? : (e : Expr) → Dec (Symbols Function e)
functions? [] = yes tt
functions? (var v ∷ e) = functions? e
functions? (sym s ∷ e) = dec_and (function? s) (functions? e)

-- γ where it has a term, and the identity elsewhere
abbrev tidy : (γ : Subst) (v : ℕ) → Dec (Symbols Function (γ v)) → Expr
tidy γ v (yes p) = γ v
tidy γ v (no p) = itself v

tidy-same : (γ : Subst) (v : ℕ) (d : Dec (Symbols Function (γ v))) → Symbols Function (γ v) → tidy γ v d ≡ γ v
tidy-same γ v (yes p) q = refl
tidy-same γ v (no p) q = absurd (p q)

tidy-term : (γ : Subst) → Proper γ → (v : ℕ) (d : Dec (Symbols Function (γ v))) → Term (tidy γ v d)
tidy-term γ ok v (yes p) = (ok v, p)
tidy-term γ ok v (no p) = (row_var row_end, tt)

tidy_idle : (γ : Subst) (v : ℕ) (d : Dec (Symbols Function (γ v))) → γ v ≡ itself v → tidy γ v d ≡ itself v
tidy_idle γ v (yes p) e = e
tidy_idle γ v (no p) e = refl

-- an instance, by whatever, of one of document 000's substitutions that is one itself is so by one
by-tidy : (σ θ γ : Subst) → Substitution σ → Substitution θ → Proper γ → ((v : ℕ) → θ v ≡ apply γ (σ v)) → MoreGeneral σ θ
by-tidy σ θ γ s t ok same = (
  δ,
  record {
    terms = λ v. tidy-term γ ok v (functions? (γ v));
    bound = max s.bound t.bound;
    finite = λ v l. tidy_idle γ v (functions? (γ v)) (idle v l);
  },
  λ v. same v ∙ apply-on γ δ (σ v) (λ w i. inv (tidy-same γ w (functions? (γ w)) (symbols-value Function γ w (σ v) i (subst (Symbols Function) (same v) (t.terms v).1)))),
)
  where
    δ : Subst
    δ v = tidy γ v (functions? (γ v))

    idle : (v : ℕ) → max s.bound t.bound ≤ v → γ v ≡ itself v
    idle v l = inv (append-nil (γ v)) ∙ ap (apply γ) (inv (s.finite v (omega arith))) ∙ inv (same v) ∙ t.finite v (omega arith)

-- Two expressions whose unifier, where one is found, is document 000's.
pub record Narrow (a b : Expr) : Type 0 where
  pub size : ℕ
  pub left : Row size a
  pub right : Row size b
  pub found : (σ : Subst) → unify a b ≡ some σ → MadeOf Function σ

-- two formulas are such
pub formulas-narrow : {a b : Expr} → Atomic a → Atomic b → Narrow a b
formulas-narrow (atomic {p = p} {n = m} {e = a} r t) (atomic {p = q} {n = n} {e = b} s u) = record {
  size = 1;
  left = atomic-row (atomic r t);
  right = atomic-row (atomic s u);
  found = λ σ e. heads-found Function a b t u (predicate p m) (predicate q n) σ e;
}

-- and so are two rows of terms
pub terms-narrow : {n : ℕ} {a b : Expr} → Row n a → Row n b → Symbols Function a → Symbols Function b → Narrow a b
terms-narrow {n} {a} {b} r s t u = record { size = n; left = r; right = s; found = λ σ e. unify-found Function a b t u σ e }

module _ {a b : Expr} (n : Narrow a b) where
  -- the unifier that is found is document 000's, and its most general one
  pub found-substitution : (σ : Subst) → unify a b ≡ some σ → Substitution σ
  found-substitution σ e =
      let f = n.found σ e in
      record { terms = λ v. ((unify-sound n.left n.right e).unifies.0 v, f.symbols v); bound = f.bound; finite = f.finite }

  unifier-unifies : (θ : Subst) → Unifier θ a b → Unifies θ a b
  unifier-unifies θ u = (λ v. (u.substitution.terms v).0, u.equal)

  -- most general among document 000's substitutions is most general among all
  mgu-general : (σ : Subst) → Mgu σ a b → MostGeneral σ a b
  mgu-general σ m = go (unify a b) refl
    where
      go : (x : Answer) → unify a b ≡ x → MostGeneral σ a b
      go none e = absurd (unify-complete n.left n.right e σ (unifier-unifies σ m.unifier))
      go (some τ) e =
          let h = m.general τ (record { substitution = found-substitution τ e; equal = (unify-sound n.left n.right e).unifies.1 }) in
          record {
            unifies = unifier-unifies σ m.unifier;
            general = λ θ u. (
              after θ h.0,
              λ v. apply-row θ u.0 (h.1.terms v).0,
              λ v. unify-absorbs n.left n.right e θ u v ∙ ap (apply θ) (h.2 v) ∙ apply-after θ h.0 (σ v),
            );
          }

  -- a substitution of document 000 is its most general unifier just when it is the search's
  pub mgu_iff : (σ : Subst) → Mgu σ a b ↔ (Substitution σ × MostGeneral σ a b)
  mgu_iff σ = (
    λ m. (m.unifier.substitution, mgu-general σ m),
    λ g. record {
      unifier = record { substitution = g.0; equal = g.1.unifies.1 };
      general = λ θ u. let i = g.1.general θ (unifier-unifies θ u) in by-tidy σ θ i.0 g.0 u.substitution i.1 i.2;
    },
  )

  -- what is found is one
  pub found-mgu : (σ : Subst) → unify a b ≡ some σ → Mgu σ a b
  found-mgu σ e = (mgu_iff σ).1 (found-substitution σ e, unify-sound n.left n.right e)

  -- what some substitution makes equal has such a most general unifier
  pub unifies-mgu : (θ : Subst) → Unifies θ a b → (σ : Subst) × Mgu σ a b
  unifies-mgu θ u = go (unify a b) refl
    where
      go : (x : Answer) → unify a b ≡ x → (σ : Subst) × Mgu σ a b
      go none e = absurd (unify-complete n.left n.right e θ u)
      go (some σ) e = (σ, found-mgu σ e)

  -- so some substitution of document 000 unifies just where some substitution does
  pub unifier_iff : ((σ : Subst) × Unifier σ a b) ↔ ((θ : Subst) × Unifies θ a b)
  unifier_iff = (λ s. (s.0, unifier-unifies s.0 s.1), λ s. let m = unifies-mgu s.0 s.1 in (m.0, m.1.unifier))

  -- a most general unifier has terms only, whatever substitutions it is most general among
  pub general-terms : (σ : Subst) → MostGeneral σ a b → (v : ℕ) → Term (σ v)
  general-terms σ g v =
      let m = unifies-mgu σ g.unifies in
      let i = g.general m.0 (unifier-unifies m.0 m.1.unifier) in
      (g.unifies.0 v, instance_symbols i.0 (σ v) (subst (Symbols Function) (i.2 v) (m.1.unifier.substitution.terms v).1))
    where
      instance_symbols : (γ : Subst) (e : Expr) → Symbols Function (apply γ e) → Symbols Function e
      instance_symbols γ [] p = tt
      instance_symbols γ (var w ∷ e) p = instance_symbols γ e (symbols-split Function (γ w) (apply γ e) p).1
      instance_symbols γ (sym s ∷ e) p = (p.0, instance_symbols γ e p.1)
