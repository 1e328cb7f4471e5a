-- An Option of which it is known whether there is a value.
use mathlib.Core.Path.{◌≡◌, refl, sym as inv, ap, ◌∙◌}
use mathlib.Core.Bool.{Bool, true, false, not, true≢false}
use Rattle.std.specs.Prelude.{is_some}
use Rattle.std.specs.declared.option.Option.{Option}
use Rattle.std.specs.declared.option.Option.TheVariants.{None, Some}

pub none-if : {X : Type 0} (r : Option X) {b : Bool} → is_some r ≡ not b → b ≡ true → r ≡ None
none-if None e t = refl
none-if (Some x) e t = absurd (true≢false (e ∙ ap not t))

pub some-if : {X : Type 0} (r : Option X) {b : Bool} → is_some r ≡ not b → b ≡ false → (x : X) × (r ≡ Some x)
some-if None e f = absurd (true≢false (inv (e ∙ ap not f)))
some-if (Some x) e f = (x, refl)
