-- What is counted along the records of a book, of constants or of formulas: numbers that no mark in a table was set for.
use Rattle.std.specs.Prelude.{ℕ, suc, ◌+◌, ◌≤◌, ◌≡◌, Bool, ◌&&◌, List, [], ◌∷◌, length, get_or, eqb}
use Rattle.terms.specs.When.{◌⇒◌∣◌}
use Rattle.format.specs.declared.Record.{Record}
use Rattle.format.specs.declared.Record.TheVariants.{Variable, Constant, Compound, Formula, Clause, Goal, End}
use Rattle.format.specs.Reading.{number_at}
use Rattle.format.specs.Format.{record_kind, encode}
use Rattle.format.specs.Arities.{Memory, meet}
use Rattle.flatness.specs.declared.counting.Counted.{Counted}
use Rattle.flatness.specs.declared.counting.Counted.TheVariants.{Constants, Predicates}

-- the kind of the records that have their numbers
abbrev pub kind_of : Counted → ℕ
kind_of Constants = 2
kind_of Predicates = 4

-- the number of a constant or of a formula's predicate
abbrev pub number_of : Record → ℕ
number_of (Variable v) = v
number_of (Constant c) = c
number_of (Compound f n) = f
number_of (Formula p n) = p
number_of (Clause n) = n
number_of (Goal n) = n
number_of End = 0

-- the numbers of the records of one kind
abbrev pub numbers_of : ℕ → List Record → List ℕ
numbers_of kind [] = []
numbers_of kind (r ∷ rs) = eqb (record_kind r) kind ⇒ number_of r ∷ numbers_of kind rs ∣ numbers_of kind rs

-- how many of them are new, one after the other
abbrev pub fresh : Memory → List ℕ → ℕ
fresh m [] = 0
fresh m (x ∷ xs) = eqb (m x) 0 ⇒ suc (fresh (meet m x 0) xs) ∣ fresh m xs

-- whether the record at a place is of the kind, and its number new
unfoldable pub new_at : ℕ → Memory → List ℕ → ℕ → Bool
new_at kind m s at = eqb (get_or s at 0) kind && eqb (m (number_at s (at + 1))) 0

unfoldable pub marked : ℕ → Memory → List ℕ → ℕ → Memory
marked kind m s at = new_at kind m s at ⇒ meet m (number_at s (at + 1)) 0 ∣ m

unfoldable pub new_ones : ℕ → Memory → List ℕ → ℕ → ℕ
new_ones kind m s at = new_at kind m s at ⇒ 1 ∣ 0

-- bytes that are the image of records, of which there are not too many
pub record Image (s : List ℕ) : Type 0 where
  pub records : List Record
  pub bytes : s ≡ encode records
  pub short : length s ≤ 32768
