use Rattle.stages.proofs.Depths.{full-root, full-top}
use Rattle.stages.proofs.counting.full.Goals as goal

pub returns-then-depth-eq0 : goal.returns-then-depth-eq0
returns-then-depth-eq0 c = λ p h e. full-root p _ _ h c.if-depth-eq0.true e

pub returns : goal.returns
returns c = λ p h e. full-top p _ _ h c.if-depth-eq0.false c.get.ensures.0
