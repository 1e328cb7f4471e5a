use Rattle.try_entries.proofs.Sums.{summing_start, summing-step, summing-end}
use Rattle.try_entries.proofs.line.sum.Goals as goal

pub loop-byte-init : goal.loop-byte-init
loop-byte-init c = summing_start _

pub loop-byte-preserved : goal.loop-byte-preserved
loop-byte-preserved c = summing-step _ _ _ _ c.loop-byte.invariant c.loop-byte-test.true c.added-sum.ensures.0 c.added-sum.ensures.1

pub returns : goal.returns
returns c = summing-end _ _ _ c.loop-byte.invariant c.loop-byte-test.false
