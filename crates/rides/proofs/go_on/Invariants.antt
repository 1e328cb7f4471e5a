use Rattle.rides.proofs.Goes.{Comes, From, Somewhere}
use Rattle.rides.specs.Riding.{Lent}
use Prim.Native.Nat.{◌+◌, ◌-◌, ◌≤◌}
use mathlib.Core.Path.{◌≡◌}
use lib.ListN.{length, take, drop}
use Rattle.figures.specs.Figures.{Figured}
use Rattle.rides.proofs.go_on.Given as goal

abbrev pub invariant-loop-ahead : goal.invariant-loop-ahead
invariant-loop-ahead l =
    Lent l.words l.cells l.rows l.saved l.out × (length l.levels ≡ 1028) × (length l.stack ≡ 1411) × (l.x.budget ≡ l.start.budget) × (l.since ≤ l.x.detector.step) × Somewhere l.book l.shelf l.initial.words l.initial.saved l.start × From l.book l.shelf l.initial.words l.initial.saved l.start (λ P q. Comes P q l.words l.cells l.levels l.saved l.s l.x) × (length l.words ≡ length l.initial.words) × (length l.cells ≡ length l.initial.cells) × (length l.saved ≡ length l.initial.saved) × (l.since ≡ l.start.place.detector.step) × Figured l.book l.shelf (drop 387 l.stack) × (l.start.place.words + l.start.place.answer ≤ l.s.top) × (take (l.start.place.words + l.start.place.answer) l.words ≡ take (l.start.place.words + l.start.place.answer) l.initial.words)

abbrev pub decreases-loop-ahead : goal.decreases-loop-ahead
decreases-loop-ahead l =
    l.start.budget - l.x.detector.step
