use Rattle.reader.proofs.Naming.{then-root, then-nested}
use Rattle.reader.proofs.then.Goals as goal

pub returns-then-depth-eq0 : goal.returns-then-depth-eq0
returns-then-depth-eq0 c = then-root _ _ c.if-depth-eq0.true

pub returns : goal.returns
returns c = then-nested _ _ c.if-depth-eq0.false
