-- The name list of a table of names.
use Rattle.std.specs.Prelude.{ℕ, suc, ◌+◌, ◌/◌, ◌%◌, ◌≤◌, List, [], ◌∷◌, ◌++◌, length}
use Rattle.nametable.specs.Table.{word}

-- the names that stand in the text at these places with these lengths
abbrev pub heard : List ℕ → List ℕ → List ℕ → List (List ℕ)
heard text [] lens = []
heard text (s ∷ starts) [] = []
heard text (s ∷ starts) (n ∷ lens) = word text s n ∷ heard text starts lens

-- the entries of names of one kind, numbered from n on (grammar, Names: `entries`)
abbrev pub noted : ℕ → ℕ → List (List ℕ) → List ℕ
noted kind n [] = []
noted kind n (w ∷ l) = (kind ∷ n / 256 ∷ n % 256 ∷ length w ∷ w) ++ noted kind (suc n) l

-- how many bytes entries have whose names have these lengths
abbrev pub sizes : List ℕ → ℕ
sizes [] = 0
sizes (n ∷ lens) = 4 + n + sizes lens

-- each name stands in the text
abbrev pub Within : List ℕ → List ℕ → List ℕ → Type 0
Within text [] [] = Unit {0}
Within text [] (n ∷ lens) = ⊥
Within text (s ∷ starts) [] = ⊥
Within text (s ∷ starts) (n ∷ lens) = (s + n ≤ length text) × Within text starts lens
