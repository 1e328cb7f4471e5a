-- Whether a goal fits, and an answer, in numbers.
use Prim.Native.Nat.{◌≤◌, ◌<◌}
use mathlib.Core.Path.{◌≡◌, ap, ap₂, ◌∙◌, refl}
use mathlib.Core.Bool.{Bool, true, false, ◌&&◌}
use lib.ListN.{length}
use lib.Dec.{leb}
use borrow.Author.Tests.{le-leb, lt-leb}
use Rattle.search.specs.Next.{Goal}
use Rattle.search.specs.Room.{nodes, fits}
use Rattle.search.specs.Answer.{small}

pub fits-not-wide : (g : Goal) → 512 < length g → fits g ≡ false
unfolding fits
fits-not-wide g h = ap (λ b. b && leb (nodes g) 4096) (lt-leb (length g) 512 h)

both_false : (b : Bool) → b && false ≡ false
both_false true = refl
both_false false = refl

pub fits-not-long : (g : Goal) → 4096 < nodes g → fits g ≡ false
unfolding fits
fits-not-long g h = ap (λ b. leb (length g) 512 && b) (lt-leb (nodes g) 4096 h) ∙ both_false (leb (length g) 512)

pub fits_both : (g : Goal) → length g ≤ 512 → nodes g ≤ 4096 → fits g ≡ true
unfolding fits
fits_both g h l = ap₂ (λ a b. a && b) (le-leb (length g) 512 h) (le-leb (nodes g) 4096 l)

pub small-not : (a : Goal) → 4096 < nodes a → small a ≡ false
unfolding small
small-not a h = lt-leb (nodes a) 4096 h

pub small_is : (a : Goal) → nodes a ≤ 4096 → small a ≡ true
unfolding small
small_is a h = le-leb (nodes a) 4096 h
