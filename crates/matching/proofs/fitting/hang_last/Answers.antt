use native.Mathlib.Omega.{arith}
use Rattle.matching.proofs.HeadLaws.{left_inside, right_inside}
use Rattle.matching.proofs.HangLaws.{hangs-last}
use Rattle.matching.proofs.fitting.hang_last.Goals as goal

pub word-requires : goal.word-requires
word-requires c = right_inside c.requires.made.0 c.args.x c.requires.made.3 c.requires.made.4 c.requires.made.5

pub follow-requires : goal.follow-requires
follow-requires c = (c.requires.made.0, left_inside c.requires.made.0 c.args.x c.requires.made.3 c.requires.made.4 c.requires.made.5)

pub returns : goal.returns
returns c = hangs-last c.requires.made.0 c.args.x c.requires.made.3 c.requires.made.4 c.requires.made.5 _ _ _ _ c.follow.ensures c.word-y.ensures (omega (arith, c.if-y-ge-SYMBOL.false)) c.id.ensures.0 c.word.ensures (omega (arith, c.if-word-lt-SYMBOL.false)) c.args.t c.if-x-ne1.false c.if-x-ne0.false (omega (arith, c.if-t-eq0.false)) c.requires.count_value.0 c.args.trail.now c.requires.made.1 (omega (arith, c.requires.count_value.3, c.if-t-eq0.false)) c.hang_row.new.cells c.hang_row.new.trail c.hang_row.result c.hang_row.ensures
