-- The bytes of the notation (document 01, "Traces to check by").
use Rattle.std.specs.Prelude.{ℕ, ◌≡◌, Bool, true, false, ◌&&◌, ◌||◌, List, [], ◌∷◌, eqb, leb}

-- "a small ASCII letter"
unfoldable pub small : ℕ → Bool
small b = leb 97 b && leb b 122

unfoldable pub capital : ℕ → Bool
capital b = leb 65 b && leb b 90

unfoldable pub digit : ℕ → Bool
digit b = leb 48 b && leb b 57

-- "then letters, digits or underscores"
unfoldable pub goes_on : ℕ → Bool
unfolding small capital digit
goes_on b = small b || capital b || digit b || eqb b 95

-- "a variable starts with a capital or an underscore"
unfoldable pub starts_variable : ℕ → Bool
unfolding capital
starts_variable b = capital b || eqb b 95

-- "a blank (space, tab, LF or CR)"
unfoldable pub is_blank : ℕ → Bool
is_blank b = eqb b 32 || eqb b 9 || eqb b 10 || eqb b 13

unfoldable pub is_percent : ℕ → Bool
is_percent b = eqb b 37

unfoldable pub is_line_end : ℕ → Bool
is_line_end b = eqb b 10

unfoldable pub is_bracket : ℕ → Bool
is_bracket b = eqb b 40

-- each byte passes a test
abbrev pub All : (ℕ → Bool) → List ℕ → Type 0
All test [] = Unit {0}
All test (b ∷ s) = (test b ≡ true) × All test s

-- no byte does
abbrev pub No : (ℕ → Bool) → List ℕ → Type 0
No test [] = Unit {0}
No test (b ∷ s) = (test b ≡ false) × No test s

-- the first byte, if there is one, passes it
abbrev pub Next : (ℕ → Bool) → List ℕ → Type 0
Next test [] = Unit {0}
Next test (b ∷ s) = test b ≡ true

-- the first byte, if there is one, does not
abbrev pub NextNot : (ℕ → Bool) → List ℕ → Type 0
NextNot test [] = Unit {0}
NextNot test (b ∷ s) = test b ≡ false

-- "a name is a small ASCII letter, then letters, digits or underscores"
abbrev pub IsName : List ℕ → Type 0
IsName [] = ⊥
IsName (b ∷ w) = (small b ≡ true) × All goes_on w

-- "a variable starts with a capital or an underscore and goes on the same way"
abbrev pub IsVariable : List ℕ → Type 0
IsVariable [] = ⊥
IsVariable (b ∷ w) = (starts_variable b ≡ true) × All goes_on w
