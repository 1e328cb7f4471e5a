-- Document 000's renamings are the permutations of finitely many variables, and its variants are those of Rename: "When θ is a renaming substitution then Eθ is called a
-- variant of E."
use Rattle.std.specs.Prelude.{ℕ, ◌<◌, ◌≡◌, refl, ◌↔◌}
use Rattle.std.proofs.Math.Decide.{dec_lt}
use Rattle.std.proofs.Common.{arith, sym as inv, ap, ◌∙◌}
use mathlib.Core.List.{List, [], ◌∷◌, map, map-map, map-id, head-eq_of_cons-eq}
use Rattle.terms.specs.Node.{Expr, same_expr}
use Rattle.terms.specs.Row.{row_end, row_var}
use Rattle.terms.specs.Subst.{Subst, apply, itself}
use Rattle.terms.specs.Rename.{rename, Variant, Variants}
use Rattle.terms.specs.Renaming.{Renaming, Permutation}
use Rattle.terms.specs.SubstLaws.{apply-on, map_same, map_on}
use Rattle.terms.specs.RenameLaws.{names, rename-apply, rename-rename, rename_idle, rename-on}
use Rattle.terms.specs.PermutationLaws.{permutation_injective, permuted, none-left-out}
use Rattle.terms.proofs.VariantLaws.{variants_injective}

one-variable : (v w : ℕ) → itself v ≡ itself w → v ≡ w
one-variable v w e = cc

-- a permutation is a renaming
pub permutation-renaming : (ρ : ℕ → ℕ) → Permutation ρ → Renaming (names ρ)
permutation-renaming ρ r = record {
  substitution = record { terms = λ v. (row_var row_end, tt); bound = r.bound; finite = λ v l. ap itself (r.finite v l) };
  into = λ v m. (ρ v, (λ e. m (ap itself (permutation_injective ρ r (ρ v) v (one-variable (ρ (ρ v)) (ρ v) e)))), refl);
  onto = λ w m.
      let there = r.there w in
      (r.inverse w, (λ e. m (ap itself (ap ρ (inv there ∙ one-variable (ρ (r.inverse w)) (r.inverse w) e) ∙ there))), ap itself there);
}

-- And a renaming is a permutation.
module _ (σ : Subst) (r : Renaming σ) where
  moved? : (v : ℕ) → Dec (σ v ≡ itself v)
  moved? v = same_expr (σ v) (itself v)

  -- what becomes of a variable
  abbrev becomes_by : (v : ℕ) → Dec (σ v ≡ itself v) → (w : ℕ) × (σ v ≡ itself w)
  becomes_by v (yes e) = (v, e)
  becomes_by v (no m) = let i = r.into v m in (i.0, i.2)

  abbrev becomes : ℕ → ℕ
  becomes v = (becomes_by v (moved? v)).0

  becomes-is : (v : ℕ) → σ v ≡ itself (becomes v)
  becomes-is v = (becomes_by v (moved? v)).1

  -- and what it comes of
  abbrev comes_by : (w : ℕ) → Dec (σ w ≡ itself w) → (v : ℕ) × (σ v ≡ itself w)
  comes_by w (yes e) = (w, e)
  comes_by w (no m) = let o = r.onto w m in (o.0, o.2)

  abbrev comes_of : ℕ → ℕ
  comes_of w = (comes_by w (moved? w)).0

  comes-is : (w : ℕ) → σ (comes_of w) ≡ itself w
  comes-is w = (comes_by w (moved? w)).1

  -- no variable from here on is moved
  abbrev reach : ℕ
  reach = r.substitution.bound

  -- each is undone by the other
  there_and_back : (w : ℕ) → becomes (comes_of w) ≡ w
  there_and_back w = one-variable (becomes (comes_of w)) w (inv (becomes-is (comes_of w)) ∙ comes-is w)

  -- a variable that is left as it is comes of itself
  comes_idle : (w : ℕ) → σ w ≡ itself w → comes_of w ≡ w
  comes_idle w e = go (moved? w)
    where
      go : (d : Dec (σ w ≡ itself w)) → (comes_by w d).0 ≡ w
      go (yes p) = refl
      go (no m) = absurd (m e)

  comes-under : (w : ℕ) → w < reach → comes_of w < reach
  comes-under w l = go (moved? w)
    where
      go : (d : Dec (σ w ≡ itself w)) → (comes_by w d).0 < reach
      go (yes e) = l
      go (no m) = let o = r.onto w m in elim (dec_lt o.0 r.substitution.bound) [ yes b ↦ b | no b ↦ absurd (o.1 (r.substitution.finite o.0 (omega arith))) ]

  back_and_there : (v : ℕ) → comes_of (becomes v) ≡ v
  back_and_there v = go (dec_lt v reach)
    where
      go : Dec (v < reach) → comes_of (becomes v) ≡ v
      go (yes l) =
          let h = none-left-out reach comes_of comes-under (λ a b p q e. inv (there_and_back a) ∙ ap becomes e ∙ there_and_back b) v l in
          ap (λ u. comes_of (becomes u)) (inv h.1) ∙ ap comes_of (there_and_back h.0) ∙ h.1
      go (no l) =
          let e = r.substitution.finite v (omega arith) in
          ap comes_of (one-variable (becomes v) v (inv (becomes-is v) ∙ e)) ∙ comes_idle v e

  pub renaming-permutation : (ρ : ℕ → ℕ) × Permutation ρ × ((v : ℕ) → σ v ≡ itself (ρ v))
  renaming-permutation = (
    becomes,
    record { inverse = comes_of; home = back_and_there; there = there_and_back; bound = reach; finite = λ v l. one-variable (becomes v) v (inv (becomes-is v) ∙ r.substitution.finite v l) },
    becomes-is,
  )

-- Variants are renamed copies, by a permutation and so by a renaming.

pub variants_permuted : (g h : List Expr) → Variants g h ↔ ((ρ : ℕ → ℕ) × Permutation ρ × (map (rename ρ) g ≡ h))
variants_permuted g h = (to, λ s. record { forth = s.0; back = s.1.inverse; there = s.2; home = ap (map (rename s.1.inverse)) (inv s.2) ∙ undo s.0 s.1 })
  where
    to : Variants g h → (ρ : ℕ → ℕ) × Permutation ρ × (map (rename ρ) g ≡ h)
    to s =
        let p = permuted s.forth g (variants_injective g h s) in
        (p.0, p.1, map_on (λ v. p.0 v ≡ s.forth v) (λ e same. rename-on p.0 s.forth e same) g p.2 ∙ s.there)

    undo : (ρ : ℕ → ℕ) (r : Permutation ρ) → map (rename r.inverse) (map (rename ρ) g) ≡ g
    undo ρ r =
        map-map (rename r.inverse) (rename ρ) g ∙ map_same (λ e. rename-rename r.inverse ρ e ∙ rename_idle (λ v. r.inverse (ρ v)) e (λ v i. r.home v)) g ∙ map-id g

pub variants_renamed : (g h : List Expr) → Variants g h ↔ ((σ : Subst) × Renaming σ × (map (apply σ) g ≡ h))
variants_renamed g h = (to, from)
  where
    to : Variants g h → (σ : Subst) × Renaming σ × (map (apply σ) g ≡ h)
    to s = let p = (variants_permuted g h).0 s in (names p.0, permutation-renaming p.0 p.1, map_same (λ e. inv (rename-apply p.0 e)) g ∙ p.2)

    from : ((σ : Subst) × Renaming σ × (map (apply σ) g ≡ h)) → Variants g h
    from (σ, r, e) =
        let p = renaming-permutation σ r in
        (variants_permuted g h).1 (p.0, p.1, map_same (λ d. rename-apply p.0 d ∙ inv (apply-on σ (names p.0) d (λ v i. p.2 v))) g ∙ e)

-- the same of expressions
pub variant_renamed : (a b : Expr) → Variant a b ↔ ((σ : Subst) × Renaming σ × (apply σ a ≡ b))
variant_renamed a b = (to, from)
  where
    alone : Variants (a ∷ []) (b ∷ []) ↔ ((σ : Subst) × Renaming σ × (map (apply σ) (a ∷ []) ≡ b ∷ []))
    alone = variants_renamed (a ∷ []) (b ∷ [])

    to : Variant a b → (σ : Subst) × Renaming σ × (apply σ a ≡ b)
    to s =
        let p = alone.0 (record { forth = s.forth; back = s.back; there = ap (λ e. e ∷ []) s.there; home = ap (λ e. e ∷ []) s.home }) in
        (p.0, p.1, head-eq_of_cons-eq p.2)

    from : ((σ : Subst) × Renaming σ × (apply σ a ≡ b)) → Variant a b
    from s =
        let v = alone.1 (s.0, s.1, ap (λ e. e ∷ []) s.2) in
        record { forth = v.forth; back = v.back; there = head-eq_of_cons-eq v.there; home = head-eq_of_cons-eq v.home }
