use mathlib.Core.Path.{◌≡◌}
use lib.ListN.{length, take}
use Rattle.bounds.specs.Tally.{Noting}
use Rattle.bounds.proofs.clauses.note.Given as goal

abbrev pub invariant-loop-u : goal.invariant-loop-u
invariant-loop-u l = Noting (take l.u-index l.head) l.counts l.n × (length l.counts ≡ 64)
