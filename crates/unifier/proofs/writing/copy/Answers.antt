use native.Mathlib.Omega.{arith}
use mathlib.Core.Path.{refl}
use Rattle.unifier.proofs.Applied.{one_written, full-written}
use Rattle.unifier.proofs.writing.copy.Goals as goal

pub returns-then-at-out : goal.returns-then-at-out
returns-then-at-out c = one_written _ _ _ _ refl c.if-at-out.true c.requires

pub returns : goal.returns
returns c = full-written _ _ _ _ _ (omega (arith, c.if-at-out.false))
