use mathlib.Core.Path.{refl}
use Rattle.matching.proofs.PairLaws.{behind_last, behind_more, first-row-whole}
use Rattle.matching.proofs.pairs.behind.Goals as goal

pub returns-then-x-eq1 : goal.returns-then-x-eq1
returns-then-x-eq1 c = behind_last _ c.args.x c.requires.2 c.requires.3 c.requires.4 c.if-x-eq1.true

pub past-requires : goal.past-requires
past-requires c = (c.requires.0, first-row-whole c.args.heap.now c.args.x.due c.args.x.p c.requires.2 c.requires.3, c.requires.1)

pub past-requires-2 : goal.past-requires-2
past-requires-2 c = (c.requires.0, first-row-whole c.args.heap.now c.args.x.due c.args.x.q c.requires.2 c.requires.4, c.requires.1)

pub returns : goal.returns
returns c = behind_more _ c.args.x c.requires.2 c.requires.3 c.requires.4 c.past.ensures c.past-2.ensures refl
