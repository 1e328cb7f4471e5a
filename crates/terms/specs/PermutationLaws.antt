-- Permutations of finitely many variables: an injective renaming of some variables goes on to one.
use Rattle.std.specs.Prelude.{ℕ, zero, suc, ◌<◌, max, ◌≡◌, refl, ◌⊎◌, List, [], ◌∷◌}
use Rattle.std.proofs.Common.{arith, sym as inv, ap, ◌∙◌, inl, inr}
use Rattle.terms.specs.Node.{var, sym, Expr, same_number}
use Rattle.terms.specs.Subst.{In, InAny}
use Rattle.terms.specs.Rename.{InjectiveOn}
use Rattle.terms.specs.Renaming.{Permutation}

pub permutation_injective : (ρ : ℕ → ℕ) → Permutation ρ → (v w : ℕ) → ρ v ≡ ρ w → v ≡ w
permutation_injective ρ r v w e = inv (r.home v) ∙ ap r.inverse e ∙ r.home w

-- Two variables exchanged.

abbrev exchange_by : (a b v : ℕ) → Dec (v ≡ a) → Dec (v ≡ b) → ℕ
exchange_by a b v (yes p) d = b
exchange_by a b v (no p) (yes q) = a
exchange_by a b v (no p) (no q) = v

abbrev exchange : ℕ → ℕ → ℕ → ℕ
exchange a b v = exchange_by a b v (same_number v a) (same_number v b)

module _ (a b : ℕ) where
  exchange-first : (v : ℕ) → v ≡ a → exchange a b v ≡ b
  exchange-first v e = go (same_number v a) (same_number v b)
    where
      go : (d : Dec (v ≡ a)) (d' : Dec (v ≡ b)) → exchange_by a b v d d' ≡ b
      go (yes p) d' = refl
      go (no p) d' = absurd (p e)

  exchange-second : (v : ℕ) → v ≡ b → exchange a b v ≡ a
  exchange-second v e = go (same_number v a) (same_number v b)
    where
      go : (d : Dec (v ≡ a)) (d' : Dec (v ≡ b)) → exchange_by a b v d d' ≡ a
      go (yes p) d' = inv e ∙ p
      go (no p) (yes q) = refl
      go (no p) (no q) = absurd (q e)

  exchange-other : (v : ℕ) → ¬ (v ≡ a) → ¬ (v ≡ b) → exchange a b v ≡ v
  exchange-other v m n = go (same_number v a) (same_number v b)
    where
      go : (d : Dec (v ≡ a)) (d' : Dec (v ≡ b)) → exchange_by a b v d d' ≡ v
      go (yes p) d' = absurd (m p)
      go (no p) (yes q) = absurd (n q)
      go (no p) (no q) = refl

  -- twice is nothing
  exchange_twice : (v : ℕ) → exchange a b (exchange a b v) ≡ v
  exchange_twice v = go (same_number v a) (same_number v b)
    where
      go : Dec (v ≡ a) → Dec (v ≡ b) → exchange a b (exchange a b v) ≡ v
      go (yes p) d = ap (exchange a b) (exchange-first v p) ∙ exchange-second b refl ∙ inv p
      go (no p) (yes q) = ap (exchange a b) (exchange-second v q) ∙ exchange-first a refl ∙ inv q
      go (no p) (no q) = ap (exchange a b) (exchange-other v p q) ∙ exchange-other v p q

-- An injective renaming of some variables goes on to a permutation.

-- one that does as ρ does where P holds
record Agrees (ρ : ℕ → ℕ) (P : ℕ → Type 0) : Type 0 where
  whole : ℕ → ℕ
  permutation : Permutation whole
  same : (v : ℕ) → P v → whole v ≡ ρ v

-- the identity
unmoved : (ρ : ℕ → ℕ) (P : ℕ → Type 0) → ((v : ℕ) → P v → ⊥) → Agrees ρ P
unmoved ρ P no_one = record {
  whole = λ v. v;
  permutation = record { inverse = λ v. v; home = λ v. refl; there = λ v. refl; bound = 0; finite = λ v l. refl };
  same = λ v p. absurd (no_one v p);
}

-- one variable more: what went there before is exchanged with it
one_more : (ρ : ℕ → ℕ) (P : ℕ → Type 0) (u : ℕ) → InjectiveOn (λ v. (v ≡ u) ⊎ P v) ρ → Agrees ρ P → Agrees ρ (λ v. (v ≡ u) ⊎ P v)
one_more ρ P u inj g = record {
  whole = λ v. exchange a b (π v);
  permutation = record {
    inverse = λ v. r.inverse (exchange a b v);
    home = λ v. ap r.inverse (exchange_twice a b (π v)) ∙ r.home v;
    there = λ v. ap (exchange a b) (r.there (exchange a b v)) ∙ exchange_twice a b v;
    bound = max r.bound (max (suc a) (suc b));
    finite = λ v l.
        let e = r.finite v (omega arith) in
        ap (exchange a b) e ∙ exchange-other a b v (λ p. omega arith) (λ p. omega arith);
  };
  same = λ v. elim [
    | inl p ↦ exchange-first a b (π v) (ap π p) ∙ ap ρ (inv p)
    | inr p ↦ other v p (same_number v u)
  ];
}
  where
    π : ℕ → ℕ
    π = g.whole

    r : Permutation π
    r = g.permutation

    a : ℕ
    a = π u

    b : ℕ
    b = ρ u

    other : (v : ℕ) → P v → Dec (v ≡ u) → exchange a b (π v) ≡ ρ v
    other v p (yes e) = exchange-first a b (π v) (ap π e) ∙ ap ρ (inv e)
    other v p (no n) =
        exchange-other a b (π v) (λ e. n (permutation_injective π r v u e)) (λ e. n (inj v u (inr p) (inl refl) (inv (g.same v p) ∙ e)))
        ∙ g.same v p

-- where less is asked
agrees-less : {ρ : ℕ → ℕ} {P Q : ℕ → Type 0} → ((v : ℕ) → P v → Q v) → Agrees ρ Q → Agrees ρ P
agrees-less less g = record { whole = g.whole; permutation = g.permutation; same = λ v p. g.same v (less v p) }

module _ (P : ℕ → Type 0) (u : ℕ) (e : Expr) where
  first_out : (v : ℕ) → In v (var u ∷ e) ⊎ P v → (v ≡ u) ⊎ (In v e ⊎ P v)
  first_out v (inl (inl p)) = inl p
  first_out v (inl (inr i)) = inr (inl i)
  first_out v (inr p) = inr (inr p)

  first-in : (v : ℕ) → (v ≡ u) ⊎ (In v e ⊎ P v) → In v (var u ∷ e) ⊎ P v
  first-in v (inl p) = inl (inl p)
  first-in v (inr (inl i)) = inl (inr i)
  first-in v (inr (inr p)) = inr p

-- the variables of e more
expr-more : (ρ : ℕ → ℕ) (P : ℕ → Type 0) (e : Expr) → InjectiveOn (λ v. In v e ⊎ P v) ρ → Agrees ρ P → Agrees ρ (λ v. In v e ⊎ P v)
expr-more ρ P [] inj g = agrees-less (λ v. elim [ inl i ↦ absurd i | inr p ↦ p ]) g
expr-more ρ P (sym s ∷ e) inj g = expr-more ρ P e inj g
expr-more ρ P (var u ∷ e) inj g =
    agrees-less (first_out P u e)
    (one_more ρ (λ v. In v e ⊎ P v) u (λ v w i j. inj v w (first-in P u e v i) (first-in P u e w j))
    (expr-more ρ P e (λ v w i j. inj v w (first-in P u e v (inr i)) (first-in P u e w (inr j))) g))

agreeing : (ρ : ℕ → ℕ) (g : List Expr) → InjectiveOn (λ v. InAny v g) ρ → Agrees ρ (λ v. InAny v g)
agreeing ρ [] inj = unmoved ρ (λ v. ⊥) (λ v i. i)
agreeing ρ (f ∷ g) inj = expr-more ρ (λ v. InAny v g) f inj (agreeing ρ g (λ v w i j. inj v w (inr i) (inr j)))

-- a permutation that does as ρ does at the variables of g
pub permuted : (ρ : ℕ → ℕ) (g : List Expr) → InjectiveOn (λ v. InAny v g) ρ → (π : ℕ → ℕ) × Permutation π × ((v : ℕ) → InAny v g → π v ≡ ρ v)
permuted ρ g inj = let a = agreeing ρ g inj in (a.whole, a.permutation, a.same)

-- numbers below n that go to different ones below n leave none out
pub none-left-out : (n : ℕ) (τ : ℕ → ℕ) → ((v : ℕ) → v < n → τ v < n) → InjectiveOn (λ v. v < n) τ → (w : ℕ) → w < n → (v : ℕ) × (τ v ≡ w)
none-left-out zero τ under inj w l = absurd (omega arith)
none-left-out (suc m) τ under inj w l = go (same_number w a) (none-left-out m τ' under' inj')
  where
    a : ℕ
    a = τ m

    -- with the value of m exchanged for m, τ goes from the numbers below m to themselves
    τ' : ℕ → ℕ
    τ' v = exchange a m (τ v)

    below : (x : ℕ) → x < suc m → ¬ (x ≡ a) → exchange a m x < m
    below x b n = elim (same_number x m) [ yes e ↦ omega (arith, exchange-second a m x e, under m (omega arith)) | no e ↦ omega (arith, exchange-other a m x n e) ]

    under' : (v : ℕ) → v < m → τ' v < m
    under' v b = below (τ v) (under v (omega arith)) (λ e. omega (arith, inj v m (omega arith) (omega arith) e))

    inj' : InjectiveOn (λ v. v < m) τ'
    inj' v u b c e = inj v u (omega arith) (omega arith) (inv (exchange_twice a m (τ v)) ∙ ap (exchange a m) e ∙ exchange_twice a m (τ u))

    go : Dec (w ≡ a) → ((u : ℕ) → u < m → (v : ℕ) × (τ' v ≡ u)) → (v : ℕ) × (τ v ≡ w)
    go (yes e) fewer = (m, inv e)
    go (no n) fewer =
        let h = fewer (exchange a m w) (below w l n) in
        (h.0, inv (exchange_twice a m (τ h.0)) ∙ ap (exchange a m) h.1 ∙ exchange_twice a m w)
