-- The search for the place of a formula, piece by piece (readouts, Place: `seek`).
use Rattle.std.specs.Prelude.{ℕ, ◌+◌, ◌-◌, Bool, true, false, eqb}
use Rattle.terms.specs.When.{◌⇒◌∣◌}
use Rattle.pieces.specs.declared.Found.{Found}
use Rattle.pieces.specs.declared.Found.TheVariants as F
use Rattle.texts.specs.declared.places.Sign.{Sign}
use Rattle.texts.specs.declared.places.Sign.TheVariants.{Name, Opening, Closing, Comma, Other, Nothing}

-- what a piece is to the search
abbrev pub sign_of : Found → Sign
sign_of (F.Name end) = Name
sign_of (F.Variable end) = Other
sign_of F.Space = Other
sign_of (F.Comment end) = Other
sign_of F.Opening = Opening
sign_of F.Closing = Closing
sign_of F.Comma = Comma
sign_of F.Arrow = Other
sign_of F.Stop = Other
sign_of F.HalfArrow = Nothing
sign_of F.HalfStop = Nothing
sign_of F.Nothing = Nothing

-- the search ends before it
abbrev pub here : Sign → ℕ → ℕ → Bool
here Name left depth = eqb depth 0 ⇒ eqb left 0 ∣ false
here Opening left depth = false
here Closing left depth = false
here Comma left depth = false
here Other left depth = false
here Nothing left depth = true

abbrev pub left_after : Sign → ℕ → ℕ → ℕ
left_after Name left depth = eqb depth 0 ⇒ left - 1 ∣ left
left_after Opening left depth = left
left_after Closing left depth = left
left_after Comma left depth = left
left_after Other left depth = left
left_after Nothing left depth = left

abbrev pub depth_after : Sign → ℕ → ℕ
depth_after Name depth = depth
depth_after Opening depth = depth + 1
depth_after Closing depth = depth - 1
depth_after Comma depth = depth
depth_after Other depth = depth
depth_after Nothing depth = depth
