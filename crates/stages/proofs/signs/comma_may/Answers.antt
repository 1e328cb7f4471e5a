use Rattle.stages.proofs.Depths.{comma-root, comma-top}
use Rattle.stages.proofs.signs.comma_may.Goals as goal

pub returns-then-depth-eq0 : goal.returns-then-depth-eq0
returns-then-depth-eq0 c = λ p h e. comma-root p _ _ h c.if-depth-eq0.true e

pub returns : goal.returns
returns c = λ p h e. comma-top p _ _ h c.if-depth-eq0.false c.get.ensures.0
