use mathlib.Core.Path.{◌≡◌}
use lib.ListN.{length, take}
use Rattle.bounds.specs.Tally.{Took}
use Rattle.bounds.proofs.clauses.take.Given as goal

abbrev pub invariant-loop-u : goal.invariant-loop-u
invariant-loop-u l = Took (take l.u-index l.body) l.initial.counts (record { matched = 0; fresh = 0; names = 0 }) l.counts l.t × (length l.counts ≡ 64)
