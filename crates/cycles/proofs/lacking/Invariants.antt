use Prim.Native.Nat.{ℕ, ◌<◌, ◌≤◌}
use mathlib.Core.Path.{◌≡◌}
use lib.ListN.{get_or}
use Rattle.words.specs.Word.{arity_of}
use Rattle.positions.specs.Words.{child}
use Rattle.positions.specs.Ranking.{under}
use Rattle.positions.specs.Tables.{ends, ups, ranks}
use Rattle.cycles.proofs.lacking.Given as goal

abbrev pub invariant-loop-i : goal.invariant-loop-i
invariant-loop-i l = (l.i ≤ l.k) × (l.k ≡ arity_of (get_or l.words l.x 0)) × (l.c ≡ child (ends l.words l.rows) l.x l.i) × ((j : ℕ) → j < l.i → 0 < under (ends l.words l.rows) (ups l.words l.rows) (ranks l.words l.rows) l.x j)
