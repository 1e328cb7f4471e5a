use native.Mathlib.Omega.{arith}
use Rattle.std.proofs.lemmas.Result.{err_from_is_err_and}
use Rattle.turns.proofs.Turning.{ready, advances}
use Rattle.halfway.proofs.Changes.{mode_is, turn-wrong, right, turn-half, turn-size, turn-goes}
use Rattle.turns.proofs.turn.Goals as goal

pub returns-then-wrong : goal.returns-then-wrong
returns-then-wrong c = (turn-wrong c.args.counts.now c.args.c c.args.at c.args.found _ _ (mode_is c.args.counts.now c.args.c c.args.at c.args.found _ _ c.deep.ensures c.after-mode.ensures) c.wrong.ensures c.if-wrong.true c.unexpected.ensures, tt)

pub returns-then-is_half : goal.returns-then-is_half
returns-then-is_half c = (turn-half c.args.counts.now c.args.c c.args.at c.args.found _ (right c.args.counts.now c.args.c c.args.at c.args.found _ _ (mode_is c.args.counts.now c.args.c c.args.at c.args.found _ _ c.deep.ensures c.after-mode.ensures) c.wrong.ensures c.if-wrong.false) c.is_half.ensures c.if-is_half.true c.unexpected-then-is_half.ensures, tt)

pub size-requires : goal.size-requires
size-requires c = (omega (arith, (ready c.requires.0 c.requires.1).depth), c.requires.1)

pub returns-in_err-size : goal.returns-in_err-size
returns-in_err-size c = let p = err_from_is_err_and c.from_residual.result c.from_residual.ensures.1 in rw (p.1, p.2) (turn-size c.args.counts.now c.args.c c.args.at c.args.found _ _ (right c.args.counts.now c.args.c c.args.at c.args.found _ _ (mode_is c.args.counts.now c.args.c c.args.at c.args.found _ _ c.deep.ensures c.after-mode.ensures) c.wrong.ensures c.if-wrong.false) c.is_half.ensures c.if-is_half.false c.in_err-size.ensures, tt)

pub advance-requires : goal.advance-requires
advance-requires c = advances c.args.found c.requires.0 c.requires.1 (right c.args.counts.now c.args.c c.args.at c.args.found _ _ (mode_is c.args.counts.now c.args.c c.args.at c.args.found _ _ c.deep.ensures c.after-mode.ensures) c.wrong.ensures c.if-wrong.false)

pub returns : goal.returns
returns c = (turn-goes c.args.counts.now c.args.c c.args.at c.args.found _ _ _ (right c.args.counts.now c.args.c c.args.at c.args.found _ _ (mode_is c.args.counts.now c.args.c c.args.at c.args.found _ _ c.deep.ensures c.after-mode.ensures) c.wrong.ensures c.if-wrong.false) c.is_half.ensures c.if-is_half.false c.in_ok-size.ensures (mode_is c.args.counts.now c.args.c c.args.at c.args.found _ _ c.deep.ensures c.after-mode.ensures) c.advance.ensures.0, c.advance.ensures.1)
