use Prim.Native.Nat.{ℕ, ◌+◌, ◌<◌}
use mathlib.Core.Path.{◌≡◌}
use mathlib.Core.List.{List, [], ◌∷◌}
use lib.ListN.{length, get_or}
use Rattle.words.specs.Columns.{Only, CELLS, LEFT, RIGHT, RANK}
use Rattle.positions.specs.Steps.{tally}
use Rattle.positions.specs.Ranking.{blank}
use Rattle.positions.specs.Diving.{Dive}
use Rattle.positions.specs.Tables.{ends, ups, picks, lefts, rights, ranks}
use Rattle.cycles.proofs.dive.Given as goal

abbrev pub Held : List ℕ → List ℕ → List ℕ → List ℕ → List ℕ → ℕ → List ℕ → List ℕ → List ℕ → ℕ → ℕ → Type 0
Held w e up pick rank₀ from rank stack place top s =
    Dive w e up pick rank s stack place top × ((q : ℕ) → 0 < get_or rank₀ q 0 → 0 < get_or rank q 0) × (0 < top → get_or stack 0 0 ≡ from) × (top ≡ 0 → 0 < get_or rank from 0)

abbrev pub invariant-loop-top : goal.invariant-loop-top
invariant-loop-top l = Held l.words (ends l.words l.initial.rows) (ups l.words l.initial.rows) (picks l.words l.initial.rows) (ranks l.words l.initial.rows) l.from (ranks l.words l.rows) (lefts l.words l.rows) (rights l.words l.rows) l.top l.s × (length l.rows ≡ CELLS) × Only (LEFT ∷ RIGHT ∷ RANK ∷ []) l.initial.rows l.rows

abbrev pub decreases-loop-top : goal.decreases-loop-top
decreases-loop-top l = tally blank 0 (rights l.words l.rows) + tally blank 0 (rights l.words l.rows) + l.top
