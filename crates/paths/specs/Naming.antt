-- Formulas that are numbered, and the names that their variables had; the next goal and answer from what goal and answer stood for under any names.
use Rattle.std.specs.Prelude.{ℕ, ◌+◌, ◌<◌, ◌≡◌, refl, get_or}
use Rattle.std.proofs.Common.{sym as inv, ap, ap₂, ◌∙◌, subst, inl, inr}
use mathlib.Core.List.{[], ◌∷◌, ◌++◌, map, map-map}
use Rattle.terms.specs.Node.{Expr}
use Rattle.terms.specs.Subst.{In, InAny, itself}
use Rattle.terms.specs.SubstLaws.{in-apply, map_same}
use Rattle.terms.specs.Rename.{rename, InjectiveOn}
use Rattle.terms.specs.RenameLaws.{rename_idle, rename-rename, rename-apply}
use Rattle.terms.specs.Number.{place, seen_all, number_all}
use Rattle.terms.proofs.NumberLaws.{get_d_place, in-seen-all, number-all-is-rename}
use Rattle.search.specs.Next.{Clause, Goal}

idle_all : (τ : ℕ → ℕ) (g : Goal) → ((v : ℕ) → InAny v g → τ v ≡ v) → map (rename τ) g ≡ g
idle_all τ [] same = refl
idle_all τ (f ∷ g) same = ap₂ ◌∷◌ (rename_idle τ f (λ v i. same v (inl i))) (idle_all τ g (λ v i. same v (inr i)))

any-rename-back : (ρ : ℕ → ℕ) (v : ℕ) (g : Goal) → InAny v (map (rename ρ) g) → (u : ℕ) × InAny u g × (v ≡ ρ u)
any-rename-back ρ v (f ∷ g) (inl i) =
    let (u, j, k) = in-apply v (λ w. itself (ρ w)) f (subst (In v) (rename-apply ρ f) i) in
    elim k [ inl e ↦ (u, inl j, e) | inr z ↦ absurd z ]
any-rename-back ρ v (f ∷ g) (inr i) = let (u, j, e) = any-rename-back ρ v g i in (u, inr j, e)
any-rename-back ρ v [] x' = elim x' [ ]

-- the names of the formulas x
module _ (x : Goal) where
  abbrev number : ℕ → ℕ
  number v = place v (seen_all [] x)

  abbrev pub name : ℕ → ℕ
  name k = get_or (seen_all [] x) k 0

  home : (v : ℕ) → InAny v x → name (number v) ≡ v
  home v i = get_d_place v (seen_all [] x) (in-seen-all [] x v i)

  pub named : map (rename name) (number_all [] x) ≡ x
  named =
      ap (map (rename name)) (number-all-is-rename [] x) ∙ map-map (rename name) (rename number) x ∙ map_same (λ e. rename-rename name number e) x
      ∙ idle_all (λ v. name (number v)) x home

  pub names_apart : InjectiveOn (λ v. InAny v (number_all [] x)) name
  names_apart v w i j e =
      let (u, a, p) = any-rename-back number v x (subst (InAny v) (number-all-is-rename [] x) i) in
      let (t, b, r) = any-rename-back number w x (subst (InAny w) (number-all-is-rename [] x) j) in
      p ∙ ap number (inv (home u a) ∙ ap name (inv p) ∙ e ∙ ap name r ∙ home t b) ∙ inv r

-- goal and answer stand for F, G and A, whose variables are below `base`; numbered they are f, g and a
module _ (F : Expr) (G A : Goal) (f : Expr) (g a : Goal) (is : number_all [] (F ∷ (G ++ A)) ≡ f ∷ (g ++ a)) (base : ℕ) (low : (v : ℕ) → InAny v (F ∷ (G ++ A)) → v < base) (c : Clause) where
  abbrev pub α : ℕ → ℕ
  α = name (F ∷ (G ++ A))

  abbrev pub past : ℕ → ℕ
  past v = v + base

  pub stood : map (rename α) (f ∷ (g ++ a)) ≡ F ∷ (G ++ A)
  stood = ap (map (rename α)) (inv is) ∙ named (F ∷ (G ++ A))
