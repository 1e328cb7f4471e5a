-- What a trial binds more is a most general unifier of the two rows as they stood.
use Rattle.std.specs.Prelude.{ℕ, zero, suc, ◌≡◌, refl, List}
use Rattle.std.proofs.Common.{sym as inv, ap, ◌∙◌, append-nil}
use Rattle.terms.specs.Node.{Expr}
use Rattle.terms.specs.Row.{Row, row_end, row_var}
use Rattle.terms.specs.Subst.{Subst, Proper, apply, after, Unifies, MostGeneral}
use Rattle.terms.specs.SubstLaws.{apply-on, apply-after, apply-row}
use Rattle.heap.specs.Heap.{rows, bound, Made, Solves, Solved}
use Rattle.heap.proofs.SolvedLaws.{solved-general, solved-free, row-free}
use Rattle.matching.specs.Unifying.{More}
use Rattle.paths.specs.Binding as B

module _ (heap cells cells' : List ℕ) (made : Made heap cells) {θ : Subst} (s : Solved heap cells θ) (p q : ℕ) (more : More heap cells p q cells') {θ' : Subst} (s' : Solved heap cells' θ') where
  at-free : (v : ℕ) → bound cells v ≡ 0 → (B.newly heap cells cells' made s p q more s') v ≡ θ' v
  at-free v e = ap (λ b. (B.chosen heap cells cells' made s p q more s') b v) e

  still : Solves heap cells θ'
  still = ((more.just θ').1 s'.solves).0

  -- what a row stands for after the trial
  pub newly-meant : (e : Expr) → apply (B.newly heap cells cells' made s p q more s') (apply θ e) ≡ apply θ' e
  newly-meant e =
      apply-on (B.newly heap cells cells' made s p q more s') θ' (apply θ e) (λ w i. at-free w (row-free made s w e i))
      ∙ apply-after θ' θ e ∙ apply-on (after θ' θ) θ' e (λ v i. inv (solved-general made s θ' still v))

  newly-proper : Proper (B.newly heap cells cells' made s p q more s')
  newly-proper v = go (bound cells v)
    where
      go : (b : ℕ) → Row 1 ((B.chosen heap cells cells' made s p q more s') b v)
      go zero = s'.solves.proper v
      go (suc r) = row_var row_end

  module _ (τ : Subst) (u : Unifies τ (apply θ (rows heap 1 p)) (apply θ (rows heap 1 q))) where
    both : Solves heap cells' (after τ θ)
    both = (more.just (after τ θ)).0 (
      record { proper = λ v. apply-row τ u.0 (s.solves.proper v); stands = λ v r e. ap (apply τ) (s.solves.stands v r e) ∙ apply-after τ θ (rows heap 1 r) },
      inv (apply-after τ θ (rows heap 1 p)) ∙ u.1 ∙ apply-after τ θ (rows heap 1 q),
    )

    on-free : (v : ℕ) → bound cells v ≡ 0 → after τ θ v ≡ τ v
    on-free v e = ap (apply τ) (s.free v e) ∙ append-nil (τ v)

    instance : (v : ℕ) → τ v ≡ apply τ ((B.newly heap cells cells' made s p q more s') v)
    instance v = go (bound cells v) refl
      where
        go : (b : ℕ) → bound cells v ≡ b → τ v ≡ apply τ ((B.chosen heap cells cells' made s p q more s') b v)
        go zero e =
            inv (on-free v e) ∙ solved-general more.made s' (after τ θ) both v
            ∙ apply-on (after τ θ) τ (θ' v) (λ w i. on-free w (more.grows w (solved-free more.made s' v w i)))
        go (suc r) e = inv (append-nil (τ v))

  pub newly-general : MostGeneral (B.newly heap cells cells' made s p q more s') (apply θ (rows heap 1 p)) (apply θ (rows heap 1 q))
  newly-general = record {
    unifies = (newly-proper, newly-meant (rows heap 1 p) ∙ ((more.just θ').1 s'.solves).1 ∙ inv (newly-meant (rows heap 1 q)));
    general = λ τ u. (τ, u.0, instance τ u);
  }
