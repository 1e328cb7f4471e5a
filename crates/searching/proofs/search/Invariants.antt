use Rattle.searching.proofs.Searches.{left as leftOver, Everywhere}
use Rattle.searching.specs.Searching.{Room, Asked}
use Rattle.search.specs.Next.{Book, Goal}
use Rattle.words.specs.Columns.{CELLS}
use Rattle.words.specs.Held.{BookOn}
use Rattle.matching.specs.TrialLaws.{Free}
use Rattle.states.specs.States.{Turned}
use lib.ListN.{length, take}
use mathlib.Core.Path.{◌≡◌}
use Prim.Native.Nat.{◌+◌}
use Rattle.searching.proofs.search.Given as goal

abbrev pub invariant-loop-turn : goal.invariant-loop-turn
invariant-loop-turn l =
    (length l.rows ≡ CELLS) × (length l.out ≡ 8192) × Room l.goal l.saved × (length l.goal ≡ length l.initial.goal) × (length l.saved ≡ length l.initial.saved) × Free l.cells × (length l.cells ≡ 8256) × ((P : Book) × (q : Goal) × BookOn l.book l.shelf P × Asked (take (l.query.words + l.query.answer) l.initial.goal) l.query.words l.query.formulas q) × Everywhere l.book l.shelf l.initial.goal l.query.words l.query.formulas l.query.answer (λ P q. Turned P q l.query.budget l.goal l.saved l.turn)

abbrev pub decreases-loop-turn : goal.decreases-loop-turn
decreases-loop-turn l = leftOver l.query.budget l.turn
