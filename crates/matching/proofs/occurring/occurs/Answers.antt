use native.Mathlib.Omega.{arith}
use Rattle.matching.specs.Occurring.{seek-end}
use Rattle.matching.proofs.occurring.occurs.Goals as goal

pub returns-then-rest-eq0 : goal.returns-then-rest-eq0
returns-then-rest-eq0 c = seek-end c.skim-rest.ensures (omega (arith, c.if-rest-eq0.true))
