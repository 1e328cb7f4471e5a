use native.Mathlib.Omega.{arith}
use mathlib.Core.Path.{refl}
use Rattle.matching.proofs.PairLaws.{settled_before}
use Rattle.matching.proofs.pairs.settled.Goals as goal

pub returns : goal.returns
returns c = settled_before _ c.args.x (omega (arith, c.if-x-gt0.false)) c.if-x-eq0.false c.get.ensures.0 c.get-2.ensures.0 c.get-3.ensures.0 refl
