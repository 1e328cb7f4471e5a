use native.Mathlib.Omega.{arith}
use Rattle.matching.proofs.PairLaws.{entered-more}
use Rattle.matching.proofs.pairs.entered.Goals as goal

pub returns : goal.returns
returns c = entered-more c.args.levels.now c.args.x _ _ _ c.if-x-eq0.false c.requires.4 (omega arith)
