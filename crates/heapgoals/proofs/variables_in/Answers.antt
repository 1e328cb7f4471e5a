use native.Mathlib.Omega.{arith}
use Rattle.heapgoals.proofs.Counts.{places-more}
use Rattle.heapgoals.proofs.variables_in.Goals as goal

pub loop-u-preserved : goal.loop-u-preserved
loop-u-preserved c = (places-more c.args.words.now c.loop-u.u-index c.loop-u.n c.one_if_variable-n.result c.loop-u-test.true c.loop-u.invariant.0 c.one_if_variable-n.ensures.0 (omega arith), omega (arith, c.loop-u.invariant.1, c.one_if_variable-n.ensures.1))
