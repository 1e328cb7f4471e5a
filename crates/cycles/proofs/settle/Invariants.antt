use Prim.Native.Nat.{ℕ, ◌<◌, ◌≤◌}
use mathlib.Core.Path.{◌≡◌}
use mathlib.Core.List.{List, [], ◌∷◌}
use lib.ListN.{length, get_or}
use Rattle.words.specs.Columns.{Only, CELLS, LEFT, RIGHT, RANK}
use Rattle.positions.specs.Diving.{Dive}
use Rattle.positions.specs.Tables.{ends, ups, picks, lefts, rights, ranks}
use Rattle.cycles.proofs.settle.Given as goal

abbrev pub Held : List ℕ → List ℕ → List ℕ → List ℕ → List ℕ → List ℕ → List ℕ → ℕ → ℕ → Type 0
Held w e up pick rank stack place s r = (r ≤ length w) × Dive w e up pick rank s stack place 0 × ((q : ℕ) → q < r → get_or up q 0 ≡ q → 0 < get_or rank q 0)

abbrev pub invariant-loop-r : goal.invariant-loop-r
invariant-loop-r l = Held l.words (ends l.words l.initial.rows) (ups l.words l.initial.rows) (picks l.words l.initial.rows) (ranks l.words l.rows) (lefts l.words l.rows) (rights l.words l.rows) l.s l.r × (length l.rows ≡ CELLS) × Only (LEFT ∷ RIGHT ∷ RANK ∷ []) l.initial.rows l.rows
