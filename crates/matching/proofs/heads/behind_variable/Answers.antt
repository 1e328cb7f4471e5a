use mathlib.Core.Path.{refl}
use Rattle.heap.specs.HeapLaws.{row_inside}
use Rattle.matching.proofs.PairLaws.{first-row-whole, behind_last, behind_more}
use Rattle.matching.proofs.HeadLaws.{variable-long}
use Rattle.matching.proofs.heads.behind_variable.Goals as goal

pub returns-then-x-eq1 : goal.returns-then-x-eq1
returns-then-x-eq1 c = behind_last c.args.heap.now c.args.x c.requires.2 c.requires.3 c.requires.4 c.if-x-eq1.true

pub past-requires : goal.past-requires
past-requires c = (c.requires.0, first-row-whole c.args.heap.now c.args.x.due c.args.x.p c.requires.2 c.requires.3, c.requires.1)

pub returns : goal.returns
returns c = behind_more c.args.heap.now c.args.x c.requires.2 c.requires.3 c.requires.4 c.past.ensures (variable-long c.args.heap.now c.args.x.q (row_inside c.args.heap.now 0 c.args.x.q (first-row-whole c.args.heap.now c.args.x.due c.args.x.q c.requires.2 c.requires.4)) c.requires.5) refl
