-- Nodes and places of goals: one behind the other, under a substitution, and numbered.
use Rattle.std.specs.Prelude.{ℕ, ◌+◌, ◌*◌, ◌≤◌, ◌≡◌, refl, length}
use Rattle.std.proofs.Common.{arith, mul-le-mul_right, sym as inv, ap, ◌∙◌, inl, inr, length-append}
use mathlib.Core.List.{List, [], ◌∷◌, ◌++◌, map, head-eq_of_cons-eq, tail-eq_of_cons-eq}
use Rattle.terms.specs.Node.{Expr}
use Rattle.terms.specs.Subst.{In, InAny, Subst, Proper, apply}
use Rattle.terms.specs.SubstLaws.{in-append}
use Rattle.terms.specs.Number.{place, seen_after, seen_all, number, number_all}
use Rattle.terms.proofs.NumberLaws.{number-length, number-all-append, number-all-length, number-is-rename}
use Rattle.search.specs.Next.{Goal}
use Rattle.search.specs.Room.{nodes}
use Rattle.words.specs.Flat.{flat, flat_append, flat-apply, flat-number, flat-size}
use Rattle.bounds.specs.Places.{weigh, places, places_all}
use Rattle.bounds.specs.WeighLaws.{gain, weigh-append, weigh-rename, weigh-most, length-apply, places-apply, places-few}

pub flat_in : (v : ℕ) (g : Goal) → In v (flat g) → InAny v g
flat_in v (f ∷ g) i = elim (in-append v f (flat g) i) [ inl j ↦ inl j | inr j ↦ inr (flat_in v g j) ]
flat_in v [] i = elim i [ ]

pub places-flat : (g : Goal) → places (flat g) ≡ places_all g
places-flat [] = refl
places-flat (f ∷ g) = weigh-append (λ v. 1) f (flat g) ∙ ap (λ n. places f + n) (places-flat g)

pub places-all-few : (g : Goal) → places_all g ≤ nodes g
places-all-few [] = omega arith
places-all-few (f ∷ g) = omega (arith, places-few f, places-all-few g)

pub nodes-append : (g h : Goal) → nodes (g ++ h) ≡ nodes g + nodes h
nodes-append g h = inv (flat-size (g ++ h)) ∙ ap length (flat_append g h) ∙ omega (arith, length-append (flat g) (flat h), flat-size g, flat-size h)

pub places-all-append : (g h : Goal) → places_all (g ++ h) ≡ places_all g + places_all h
places-all-append g h = inv (places-flat (g ++ h)) ∙ ap places (flat_append g h) ∙ omega (arith, weigh-append (λ v. 1) (flat g) (flat h), places-flat g, places-flat h)

-- Under a substitution.
module _ (σ : Subst) (g : Goal) where
  pub nodes-apply : Proper σ → nodes (map (apply σ) g) ≡ nodes g + weigh (gain σ) (flat g)
  nodes-apply ok = inv (flat-size (map (apply σ) g)) ∙ ap length (flat-apply σ g) ∙ omega (arith, length-apply σ ok (flat g), flat-size g)

  pub places-all-apply : places_all (map (apply σ) g) ≡ weigh (λ v. places (σ v)) (flat g)
  places-all-apply = inv (places-flat (map (apply σ) g)) ∙ ap places (flat-apply σ g) ∙ places-apply σ (flat g)

-- where each variable weighs at most k
pub weigh-all-most : (w : ℕ → ℕ) (k t : ℕ) (g : Goal) → ((v : ℕ) → InAny v g → w v ≤ k) → places_all g ≤ t → weigh w (flat g) ≤ t * k
weigh-all-most w k t g all few =
    omega (arith, weigh-most w k (flat g) (λ v i. all v (flat_in v g i)), ap (λ n. n * k) (places-flat g), mul-le-mul_right {m = places_all g} {n = t} k few)

-- Numbering changes neither.
pub places-number : (seen : List ℕ) (e : Expr) → places (number seen e) ≡ places e
places-number seen e = ap places (number-is-rename seen e) ∙ weigh-rename (λ v. 1) (λ v. place v (seen_after seen e)) e

pub nodes-number : (seen : List ℕ) (g : Goal) → nodes (number_all seen g) ≡ nodes g
nodes-number seen g = inv (flat-size (number_all seen g)) ∙ ap length (flat-number seen g) ∙ number-length seen (flat g) ∙ flat-size g

pub places-all-number : (seen : List ℕ) (g : Goal) → places_all (number_all seen g) ≡ places_all g
places-all-number seen g = inv (places-flat (number_all seen g)) ∙ ap places (flat-number seen g) ∙ places-number seen (flat g) ∙ places-flat g

same_parts : (h b p q : Goal) → h ++ b ≡ p ++ q → length h ≡ length p → (nodes h ≡ nodes p) × (nodes b ≡ nodes q)
same_parts [] b [] q e l = (refl, ap nodes e)
same_parts [] b (f ∷ p) q e l = absurd (omega (arith, l))
same_parts (f ∷ h) b [] q e l = absurd (omega (arith, l))
same_parts (f ∷ h) b (x ∷ p) q e l =
    let (i, j) = same_parts h b p q (tail-eq_of_cons-eq e) (omega (arith, l)) in
    (omega (arith, i, ap length (head-eq_of_cons-eq e)), j)

-- a goal and an answer that are numbered as one have the nodes that they had
pub numbered-nodes : (h b x y : Goal) → h ++ b ≡ number_all [] (x ++ y) → length h ≡ length x → (nodes h ≡ nodes x) × (nodes b ≡ nodes y)
numbered-nodes h b x y e l =
    let (i, j) = same_parts h b (number_all [] x) (number_all (seen_all [] x) y) (e ∙ number-all-append [] x y) (l ∙ inv (number-all-length [] x)) in
    (i ∙ nodes-number [] x, j ∙ nodes-number (seen_all [] x) y)
