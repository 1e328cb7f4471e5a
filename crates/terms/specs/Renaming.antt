-- Document 000's renamings (1.2.2): "A substitution θ is a finite set of the form {x1/t1, .., xn/tn} where .. each ti is a term different from xi. .. {x1, .., xn} is
-- called the domain .. If {t1, .., tn} = {x1, .., xn} then θ is called a renaming." That these are the permutations of finitely many variables, and that variants
-- (Rename) are renamed copies in this sense, is in PermutationLaws and RenamingLaws.
use Rattle.std.specs.Prelude.{ℕ, ◌≤◌, ◌≡◌}
use Rattle.terms.specs.Subst.{Subst, itself}
use Rattle.terms.specs.Substitution.{Substitution}

-- v is of the domain
abbrev pub Moved : Subst → ℕ → Type 0
Moved σ v = ¬ (σ v ≡ itself v)

-- the variables of the domain become variables of the domain, and each of the domain is what one becomes
pub record Renaming (σ : Subst) : Type 0 where
  pub substitution : Substitution σ
  pub into : (v : ℕ) → Moved σ v → (w : ℕ) × Moved σ w × (σ v ≡ itself w)
  pub onto : (w : ℕ) → Moved σ w → (v : ℕ) × Moved σ v × (σ v ≡ itself w)

-- a permutation of finitely many variables, with its inverse
pub record Permutation (ρ : ℕ → ℕ) : Type 0 where
  pub inverse : ℕ → ℕ
  pub home : (v : ℕ) → inverse (ρ v) ≡ v
  pub there : (v : ℕ) → ρ (inverse v) ≡ v
  pub bound : ℕ
  pub finite : (v : ℕ) → bound ≤ v → ρ v ≡ v
