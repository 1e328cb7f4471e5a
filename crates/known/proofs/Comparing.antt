-- The entry that has a name.
use Prim.Native.Nat.{ℕ, ◌+◌, ◌-◌}
use mathlib.Core.Path.{◌≡◌, refl, sym as inv, ap, ap₂, ◌∙◌}
use mathlib.Core.Bool.{Bool, ◌&&◌}
use mathlib.Core.List.{List, [], ◌∷◌}
use native.Mathlib.Omega.{arith}
use borrow.Author.Tests.{eq-eqb}
use lib.ListN.{get_or, take, drop}
use lib.Dec.{eqb}
use lib.Pointwise.{pointwise}
use Rattle.grammar.specs.Names.{same_name}
use Rattle.namelist.specs.Bytes.{length_at, name_at, past}

-- the library's equality of slices is that of names
pub pointwise-name : (v w : List ℕ) → pointwise eqb v w ≡ same_name v w
pointwise-name [] [] = refl
pointwise-name [] (b ∷ w) = refl
pointwise-name (a ∷ v) [] = refl
pointwise-name (a ∷ v) (b ∷ w) = ap (λ (t : Bool). eqb a b && t) (pointwise-name v w)

-- the entry at a place, of the kind that is sought
pub called-said : (s name : List ℕ) (at a b to : ℕ) (t : Bool) → b ≡ get_or s at 0 → b ≡ a → to ≡ past s at → t ≡ pointwise eqb name (take (to - (at + 4)) (drop (at + 4) s)) →
    t ≡ (eqb a (get_or s at 0) && same_name name (name_at s at))
called-said s name at a b to t p e q w =
    w ∙ pointwise-name name (take (to - (at + 4)) (drop (at + 4) s)) ∙ ap (λ (i : ℕ). same_name name (take i (drop (at + 4) s))) (let z : to - (at + 4) ≡ length_at s at = omega arith in z)
    ∙ inv (ap (λ (u : Bool). u && same_name name (name_at s at)) (eq-eqb a (get_or s at 0) (inv e ∙ p)))
