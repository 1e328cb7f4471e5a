-- The first formula of several, and what a substitution makes of one.
use Prim.Native.Nat.{◌≤◌}
use native.Mathlib.Omega.{arith}
use mathlib.Core.Path.{◌≡◌, refl, sym as inv}
use mathlib.Core.List.{[], ◌∷◌, ◌++◌, map}
use lib.ListN.{length}
use Rattle.terms.specs.Node.{Expr}
use Rattle.terms.specs.Subst.{Subst, Proper, apply}
use Rattle.search.specs.Next.{Goal}
use Rattle.words.specs.Flat.{flat}
use Rattle.bounds.specs.WeighLaws.{length-apply}
use Rattle.figures.specs.Figures.{first_of}

pub first-map : (F : Expr → Expr) → F [] ≡ [] → (g : Goal) → first_of (map F g) ≡ F (first_of g)
first-map F e [] = inv e
first-map F e (f ∷ g) = refl

pub first_flat : (g : Goal) → (x : Expr) × (flat g ≡ first_of g ++ x)
first_flat [] = ([], refl)
first_flat (f ∷ g) = (flat g, refl)

pub longer : (θ : Subst) → Proper θ → (e : Expr) → length e ≤ length (apply θ e)
longer θ ok e = omega (arith, length-apply θ ok e)
