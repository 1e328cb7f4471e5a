-- What the variables of an expression weigh, after substitutions and by weights and counts.
use Rattle.std.specs.Prelude.{ℕ, ◌+◌, ◌*◌, ◌-◌, ◌≤◌, ◌≡◌, refl, [], ◌∷◌, ◌++◌, length}
use Rattle.std.proofs.Common.{arith, add-mul, ap, ◌∙◌, inl, inr, length-append}
use Rattle.std.proofs.Math.Decide.{ℕ_discrete}
use Rattle.terms.specs.Node.{var, sym, Expr}
use Rattle.terms.specs.RowLaws.{row-long}
use Rattle.terms.specs.Subst.{In, Subst, Proper, apply}
use Rattle.terms.specs.Rename.{rename}
use Rattle.bounds.specs.Places.{weigh, places}

module _ (w : ℕ → ℕ) where
  pub weigh-append : (a b : Expr) → weigh w (a ++ b) ≡ weigh w a + weigh w b
  weigh-append [] b = omega arith
  weigh-append (var v ∷ a) b = omega (arith, weigh-append a b)
  weigh-append (sym s ∷ a) b = weigh-append a b

  pub weigh-apply : (σ : Subst) (e : Expr) → weigh w (apply σ e) ≡ weigh (λ v. weigh w (σ v)) e
  weigh-apply σ [] = refl
  weigh-apply σ (var v ∷ e) = weigh-append (σ v) (apply σ e) ∙ ap (λ n. weigh w (σ v) + n) (weigh-apply σ e)
  weigh-apply σ (sym s ∷ e) = weigh-apply σ e

  pub weigh-rename : (ρ : ℕ → ℕ) (e : Expr) → weigh w (rename ρ e) ≡ weigh (λ v. w (ρ v)) e
  weigh-rename ρ [] = refl
  weigh-rename ρ (var v ∷ e) = ap (λ n. w (ρ v) + n) (weigh-rename ρ e)
  weigh-rename ρ (sym s ∷ e) = weigh-rename ρ e

  -- with greater weights
  pub weigh-more : (u : ℕ → ℕ) (e : Expr) → ((v : ℕ) → In v e → w v ≤ u v) → weigh w e ≤ weigh u e
  weigh-more u [] all = omega arith
  weigh-more u (var v ∷ e) all = omega (arith, all v (inl refl), weigh-more u e (λ x i. all x (inr i)))
  weigh-more u (sym s ∷ e) all = weigh-more u e all

  pub weigh-most : (k : ℕ) (e : Expr) → ((v : ℕ) → In v e → w v ≤ k) → weigh w e ≤ places e * k
  weigh-most k [] all = omega arith
  weigh-most k (var v ∷ e) all = omega (arith, all v (inl refl), weigh-most k e (λ x i. all x (inr i)), add-mul 1 (places e) k)
  weigh-most k (sym s ∷ e) all = weigh-most k e all

  -- some variable has a weight
  pub weigh-some : (e : Expr) → (weigh w e ≡ 0 → ⊥) → (v : ℕ) × In v e × (w v ≡ 0 → ⊥)
  weigh-some [] n = absurd (n refl)
  weigh-some (var v ∷ e) n = elim (ℕ_discrete (w v) 0) [
    | yes z ↦ let (x, i, m) = weigh-some e (λ q. n (omega (arith, z, q))) in (x, inr i, m)
    | no m ↦ (v, inl refl, m)
  ]
  weigh-some (sym s ∷ e) n = weigh-some e n

  -- with no weights
  pub weigh-none : (e : Expr) → ((v : ℕ) → In v e → w v ≡ 0) → weigh w e ≡ 0
  weigh-none [] all = refl
  weigh-none (var v ∷ e) all = omega (arith, all v (inl refl), weigh-none e (λ x i. all x (inr i)))
  weigh-none (sym s ∷ e) all = weigh-none e all

  pub weigh-add : (u : ℕ → ℕ) (e : Expr) → weigh (λ v. w v + u v) e ≡ weigh w e + weigh u e
  weigh-add u [] = refl
  weigh-add u (var v ∷ e) = omega (arith, weigh-add u e)
  weigh-add u (sym s ∷ e) = weigh-add u e

-- how many nodes a substitution adds at a variable
abbrev pub gain : Subst → ℕ → ℕ
gain σ v = length (σ v) - 1

pub length-apply : (σ : Subst) → Proper σ → (e : Expr) → length (apply σ e) ≡ length e + weigh (gain σ) e
length-apply σ ok [] = refl
length-apply σ ok (var v ∷ e) = omega (arith, length-append (σ v) (apply σ e), length-apply σ ok e, row-long (ok v))
length-apply σ ok (sym s ∷ e) = omega (arith, length-apply σ ok e)

pub places-apply : (σ : Subst) (e : Expr) → places (apply σ e) ≡ weigh (λ v. places (σ v)) e
places-apply σ e = weigh-apply (λ v. 1) σ e

pub places-few : (e : Expr) → places e ≤ length e
places-few [] = omega arith
places-few (var v ∷ e) = omega (arith, places-few e)
places-few (sym s ∷ e) = omega (arith, places-few e)
