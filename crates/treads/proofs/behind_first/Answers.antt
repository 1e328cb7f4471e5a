use Rattle.treads.proofs.Entering.{first-there, behind-none, behind-some}
use Rattle.treads.proofs.behind_first.Goals as goal

pub returns-then-s-eq1 : goal.returns-then-s-eq1
returns-then-s-eq1 c = behind-none c.args.heap.now c.args.s c.requires.2 c.if-s-eq1.true

pub past-requires : goal.past-requires
past-requires c = (c.requires.0, first-there c.args.heap.now c.args.s.due c.args.s.at c.requires.3 c.requires.2, c.requires.1)

pub returns : goal.returns
returns c = behind-some c.args.heap.now c.args.s c.requires.3 c.requires.2 c.past.ensures
