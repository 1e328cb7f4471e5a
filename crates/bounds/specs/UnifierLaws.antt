-- What a most general unifier does to a variable that it has no use for.
use Rattle.std.specs.Prelude.{ℕ, ◌*◌, ◌-◌, ◌≡◌, refl, eqb, length}
use Rattle.std.proofs.Common.{arith, eq-eqb, ne_eqb, sym as inv, ap, ◌∙◌, subst}
use Rattle.std.proofs.Math.Decide.{ℕ_discrete}
use mathlib.Core.List.{[], ◌∷◌, append-nil, head-eq_of_cons-eq}
use Rattle.terms.specs.When.{◌⇒◌∣◌}
use Rattle.terms.specs.Node.{Node, var, sym, Expr}
use Rattle.terms.specs.Row.{Row, row_end, row_var}
use Rattle.terms.specs.Subst.{In, Subst, Proper, apply, itself, MostGeneral}
use Rattle.terms.specs.SubstLaws.{apply-on}
use Rattle.bounds.specs.Places.{places, times}
use Rattle.bounds.specs.WeighLaws.{gain, weigh-apply}
use Rattle.bounds.specs.ThriftLaws.{mark, mark-same, weigh-split, top, top-high}

-- A variable that is in neither goes to a variable, which is in no other's value.
module _ (σ : Subst) (a b : Expr) (general : MostGeneral σ a b) (x : ℕ) (out : ¬ In x a) (off : ¬ In x b) where
  module _ (y : ℕ) where
    -- σ, but x goes to y
    abbrev spared : Subst
    spared v = eqb x v ⇒ itself y ∣ σ v

    spared_other : (v : ℕ) → (x ≡ v → ⊥) → spared v ≡ σ v
    spared_other v n = rw (ne_eqb x v n)

    spared-same : spared x ≡ itself y
    spared-same = rw (eq-eqb x x refl)

    spared-proper : Proper spared
    spared-proper v = elim (ℕ_discrete x v) [
      | yes p ↦ rw (eq-eqb x v p) (row_var row_end)
      | no n ↦ subst (Row 1) (inv (spared_other v n)) (general.unifies.0 v)
    ]

    same-on : (e : Expr) → ¬ In x e → apply spared e ≡ apply σ e
    same-on e n = apply-on spared σ e (λ v i. spared_other v (λ p. n (subst (λ y. In y e) (inv p) i)))

    -- which is what σ is, and more
    instance : (γ : Subst) × Proper γ × ((v : ℕ) → spared v ≡ apply γ (σ v))
    instance = general.general spared (spared-proper, same-on a out ∙ general.unifies.1 ∙ inv (same-on b off))

  lone : (e : Expr) → Row 1 e → (γ : Subst) → itself x ≡ apply γ e → (w : ℕ) × (e ≡ itself w)
  lone (var w ∷ []) r γ e = (w, refl)
  lone (var w ∷ n ∷ e) (row_var r) γ same = absurd (none r)
    where
      none : {n : Node} {e : Expr} → Row 0 (n ∷ e) → ⊥
      none r = elim r [ ]
  lone (sym s ∷ e) r γ same = absurd (apart (head-eq_of_cons-eq same))
    where
      apart : var x ≡ sym s → ⊥
      apart e = let z : ◌≡◌ {A = ℕ} 0 1 = ap (elim [ var v ↦ 0 | sym t ↦ 1 ]) e in omega (arith, z)
  lone [] r γ e = elim r [ ]

  pub general-lone : (w : ℕ) × (σ x ≡ itself w)
  general-lone = let (γ, ok, more) = instance x in lone (σ x) (general.unifies.0 x) γ (inv (spared-same x) ∙ more x)

  pub lone-gain : gain σ x ≡ 0
  lone-gain = ap (λ e. length e - 1) general-lone.1

  pub lone-places : places (σ x) ≡ 1
  lone-places = ap places general-lone.1

  pub lone-apart : (v : ℕ) → (x ≡ v → ⊥) → times general-lone.0 (σ v) ≡ 0
  lone-apart v n =
      let (w, is) = general-lone in
      let y = top (σ v) in
      let (γ, ok, more) = instance y in
      let here : times y (γ w) ≡ 1 = ap (times y) (inv (append-nil (γ w)) ∙ ap (apply γ) (inv is) ∙ inv (more x) ∙ spared-same y) ∙ omega (arith, mark-same y y refl) in
      let none : times y (apply γ (σ v)) ≡ 0 = ap (times y) (inv (more v) ∙ spared_other y v n) ∙ top-high y (σ v) (omega arith) in
      omega (arith, none, weigh-apply (mark y) γ (σ v), weigh-split w (λ u. times y (γ u)) (σ v), ap (λ k. times w (σ v) * k) here)
