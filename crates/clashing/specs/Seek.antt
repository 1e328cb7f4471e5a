-- The search for the place of a formula, piece by piece (questions, Outcome: `formula_in`).
use Rattle.std.specs.Prelude.{ℕ, ◌+◌, Bool, true, false, eqb}
use Rattle.terms.specs.When.{◌⇒◌∣◌}
use Rattle.texts.specs.declared.places.Sign.{Sign}
use Rattle.texts.specs.declared.places.Sign.TheVariants.{Name, Opening, Closing, Comma, Other, Nothing}

-- the search ends before it
abbrev pub here : Sign → ℕ → ℕ → ℕ → Bool
here Name outside depth k = eqb depth 0 ⇒ eqb outside k ∣ false
here Opening outside depth k = false
here Closing outside depth k = false
here Comma outside depth k = false
here Other outside depth k = false
here Nothing outside depth k = true

abbrev pub outside_after : Sign → ℕ → ℕ → ℕ
outside_after Name outside depth = outside
outside_after Opening outside depth = outside
outside_after Closing outside depth = outside
outside_after Comma outside depth = eqb depth 0 ⇒ outside + 1 ∣ outside
outside_after Other outside depth = outside
outside_after Nothing outside depth = outside
