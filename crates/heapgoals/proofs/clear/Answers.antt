use Rattle.heapgoals.proofs.Clears.{filled}
use Rattle.heapgoals.proofs.clear.Goals as goal

pub returns : goal.returns
returns c = filled c.args.cells.now c.args.from c.args.to c.requires.0 c.requires.1 (c.fill.ensures.after (λ y h. h))
