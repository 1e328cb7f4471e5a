use native.Mathlib.Omega.{arith}
use Rattle.matching.proofs.unifying.sought.Goals as goal

pub returns-then-r-t : goal.returns-then-r-t
returns-then-r-t c = (omega arith, c.requires.made.3 c.if-t-eq0.true _ _ c.if-t-v.true c.if-r-t.true c.requires.made.1)
