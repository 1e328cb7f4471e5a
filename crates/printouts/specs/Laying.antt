-- Bytes laid into an area from a place on; those that have no room in it are counted, no further than to 65,537.
use Rattle.std.specs.Prelude.{ℕ, suc, ◌+◌, ◌≤◌, ◌<◌, ◌≡◌, refl, List, [], ◌∷◌, ◌++◌, length, set, drop, ltb}
use Rattle.std.proofs.Common.{sym as inv, ap, ap₂, ◌∙◌, arith, ltb-true, ltb-false, lt-ltb}
use Rattle.std.proofs.Math.Decide.{dec_lt}
use Rattle.std.proofs.lemmas.List.Edits.{sets, sets-eq}
use Rattle.terms.specs.When.{◌⇒◌∣◌}
use Rattle.terms.specs.Cases.{cases}

abbrev pub up : ℕ → ℕ
up at = ltb at 65537 ⇒ at + 1 ∣ at

abbrev pub lay : List ℕ → ℕ → List ℕ → List ℕ
lay area at [] = area
lay area at (b ∷ w) = lay (set area at b) (up at) w

abbrev pub reach : ℕ → List ℕ → ℕ
reach at [] = at
reach at (b ∷ w) = reach (up at) w

-- an area, and the place, before and after these bytes
pub record Lays (area area' : List ℕ) (at end : ℕ) (w : List ℕ) : Type 0 where
  pub area_is : area' ≡ lay area at w
  pub end_is : end ≡ reach at w

pub lay-append : (area : List ℕ) (at : ℕ) (v w : List ℕ) → lay area at (v ++ w) ≡ lay (lay area at v) (reach at v) w
lay-append area at [] w = refl
lay-append area at (b ∷ v) w = lay-append (set area at b) (up at) v w

pub reach-append : (at : ℕ) (v w : List ℕ) → reach at (v ++ w) ≡ reach (reach at v) w
reach-append at [] w = refl
reach-append at (b ∷ v) w = reach-append (up at) v w

pub lays-none : (area : List ℕ) (at : ℕ) → Lays area area at at []
lays-none area at = record { area_is = refl; end_is = refl }

pub lays-then : (a b c : List ℕ) (at i j : ℕ) (v w : List ℕ) → Lays a b at i v → Lays b c i j w → Lays a c at j (v ++ w)
lays-then a b c at i j v w p q =
    record {
      area_is = q.area_is ∙ ap₂ (λ (d : List ℕ) (k : ℕ). lay d k w) p.area_is p.end_is ∙ inv (lay-append a at v w);
      end_is = q.end_is ∙ ap (λ (k : ℕ). reach k w) p.end_is ∙ inv (reach-append at v w);
    }

-- The whole of a text

up-low : (at : ℕ) → up at ≤ at + 1
up-low at = cases (ltb at 65537) (λ t. rw t (omega arith)) (λ t. rw t (omega arith))

pub reach-short : (at : ℕ) (w : List ℕ) → at + length w ≤ 65537 → reach at w ≡ at + length w
reach-short at [] h = omega arith
reach-short at (b ∷ w) h = rw (lt-ltb at 65537 (omega arith)) (reach-short (at + 1) w (omega arith) ∙ (omega arith))

pub reach-long : (at : ℕ) (w : List ℕ) → at ≤ 65537 → 65537 ≤ at + length w → reach at w ≡ 65537
reach-long at [] h l = omega arith
reach-long at (b ∷ w) h l =
    cases (ltb at 65537) (λ t. rw t (reach-long (at + 1) w (omega (arith, ltb-true at 65537 t)) (omega arith)))
    (λ t. rw t (reach-long at w h (omega (arith, ltb-false at 65537 t))))

lay_sets : (area : List ℕ) (at : ℕ) (w : List ℕ) → at + length w ≤ 65537 → lay area at w ≡ sets area at w
lay_sets area at [] h = refl
lay_sets area at (b ∷ w) h = rw (lt-ltb at 65537 (omega arith)) (lay_sets (set area at b) (at + 1) w (omega arith) ∙ ap (λ (i : ℕ). sets (set area at b) i w) (let q : at + 1 ≡ suc at = omega arith in q))

-- at an area's front
pub lay-front : (area w : List ℕ) → length w ≤ 65536 → length w ≤ length area → lay area 0 w ≡ w ++ drop (length w) area
lay-front area w h l =
    lay_sets area 0 w (omega arith) ∙ sets-eq w area 0 (omega arith) ∙ ap (λ (i : ℕ). w ++ drop i area) (let q : 0 + length w ≡ length w = omega arith in q)

-- how long a text is, as far as it matters
pub measured : (w : List ℕ) (n : ℕ) → n ≡ reach 0 w → n ≤ 65536 → n ≡ length w
measured w n e l =
    elim (dec_lt (length w) 65537) [
      | yes h ↦ e ∙ reach-short 0 w (omega arith) ∙ (omega arith)
      | no h ↦ absurd (omega (arith, e, reach-long 0 w (omega arith) (omega arith)))
    ]

pub over_long : (w : List ℕ) (n : ℕ) → n ≡ reach 0 w → 65536 < n → 65536 < length w
over_long w n e l =
    elim (dec_lt (length w) 65537) [
      | yes h ↦ absurd (omega (arith, e, l, h, reach-short 0 w (omega arith)))
      | no h ↦ omega arith
    ]
