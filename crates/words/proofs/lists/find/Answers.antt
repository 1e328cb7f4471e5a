use native.Mathlib.Omega.{arith}
use Rattle.words.proofs.lists.find.Goals as goal

pub seek-at-requires : goal.seek-at-requires
seek-at-requires c = (_, _, c.requires.1, c.requires.2)

pub along-requires : goal.along-requires
along-requires c = (_, c.requires.1)

pub returns : goal.returns
returns c = λ P o. c.along.ensures P c.args.from o (omega (arith, c.requires.2, c.requires.1.long, o.long)) (c.seek-at.ensures _ P o)
