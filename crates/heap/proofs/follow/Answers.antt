use Rattle.heap.specs.Following.{follow_row}
use Rattle.heap.proofs.follow.Goals as goal

pub loop-p-preserved : goal.loop-p-preserved
loop-p-preserved c = follow_row c.requires.0 c.loop-p.invariant c.word-u.ensures c.if-u-ge-SYMBOL.false c.id.ensures.0 c.in-Some.ensures.bound
