-- Bytes that are written behind others.
use Rattle.std.specs.Prelude.{ℕ, ◌+◌, ◌/◌, ◌%◌, ◌≤◌, ◌≡◌, List, [], ◌∷◌, ◌++◌, length, take}
use Rattle.symbols.specs.Sections.{part}
use Rattle.drafts.specs.declared.Kind.{Kind}
use Rattle.drafts.specs.declared.Kind.TheVariants.{Constant, Compound, Predicate}

-- these bytes stand from a place on: behind any part that ends there; and what is before the place stays
pub record Wrote (out out' : List ℕ) (at : ℕ) (bs : List ℕ) : Type 0 where
  pub pushed : (from len : ℕ) → from + len ≡ at → part from (len + length bs) out' ≡ part from len out ++ bs
  pub kept : (n : ℕ) → n ≤ at → take n out' ≡ take n out
  pub same : length out' ≡ length out

-- the record of a symbol that has no argument yet
abbrev pub symbol_bytes : Kind → ℕ → List ℕ
symbol_bytes Constant n = 2 ∷ n / 256 ∷ n % 256 ∷ []
symbol_bytes Compound n = 3 ∷ n / 256 ∷ n % 256 ∷ 0 ∷ []
symbol_bytes Predicate n = 4 ∷ n / 256 ∷ n % 256 ∷ 0 ∷ []
