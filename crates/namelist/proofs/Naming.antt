-- Names byte by byte.
use Prim.Native.Nat.{ℕ, suc, ◌-◌, ◌≤◌}
use mathlib.Core.Path.{◌≡◌, refl, sym as inv, ap, ◌∙◌}
use mathlib.Core.Bool.{Bool, true}
use mathlib.Core.List.{List, [], ◌∷◌}
use native.Mathlib.Omega.{arith}
use lib.ListN.{length, get_or, take, drop}
use lib.Seq.{take-length}
use Rattle.std.specs.List.{list_all}
use Rattle.terms.specs.Cases.{cases}
use Rattle.grammar.specs.Byte.{small, goes_on}
use Rattle.namelist.specs.Bytes.{go_on, is_name}

go-on-is : (w : List ℕ) → list_all goes_on w ≡ go_on w
go-on-is [] = refl
go-on-is (b ∷ w) = cases (goes_on b) (λ t. rw t (go-on-is w)) (λ t. rw t refl)

-- a small letter first, and the others go on
pub name-is : (w : List ℕ) (t u : Bool) → 1 ≤ length w → u ≡ small (get_or w 0 0) → u ≡ true → t ≡ list_all goes_on (take (length w - 1) (drop 1 w)) → t ≡ is_name w
name-is [] t u h e f g = absurd (omega arith)
name-is (b ∷ w) t u h e f g =
    g
    ∙ ap (λ (n : ℕ). list_all goes_on (take n w)) (let z : suc (length w) - 1 ≡ length w = omega arith in z)
    ∙ ap (list_all goes_on) (take-length w)
    ∙ go-on-is w
    ∙ inv (rw (inv e ∙ f) refl)
