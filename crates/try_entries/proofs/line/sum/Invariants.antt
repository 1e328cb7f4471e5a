use Rattle.try_entries.proofs.Sums.{Summing}
use Rattle.try_entries.proofs.line.sum.Given as goal

abbrev pub invariant-loop-byte : goal.invariant-loop-byte
invariant-loop-byte l = Summing l.bytes l.byte-index l.sum
