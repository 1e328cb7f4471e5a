use native.Mathlib.Omega.{arith}
use Rattle.stages.proofs.Holding.{raise-root, raise-top}
use Rattle.stages.proofs.counting.raise.Goals as goal

pub returns-then-depth-eq0 : goal.returns-then-depth-eq0
returns-then-depth-eq0 c = raise-root _ _ _ c.if-depth-eq0.true

pub overflow_add-counts : goal.overflow_add-counts
overflow_add-counts c = omega (arith, c.requires.2 c.if-depth-eq0.false)

pub returns : goal.returns
returns c = raise-top _ _ _ c.if-depth-eq0.false
