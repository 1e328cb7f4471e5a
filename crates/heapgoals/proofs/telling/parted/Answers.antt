use borrow.Author.Tests.{leb-true}
use native.Mathlib.Omega.{arith}
use Rattle.heapgoals.proofs.Tells.{parted-var, parted-sym}
use Rattle.heapgoals.proofs.telling.parted.Goals as goal

pub returns-then-u-lt-SYMBOL : goal.returns-then-u-lt-SYMBOL
returns-then-u-lt-SYMBOL c = λ e. parted-var _ _ c.requires.0 c.if-u-lt-SYMBOL.true (leb-true 33554432 c.args.v e)

pub returns : goal.returns
returns c = λ e. parted-sym _ _ c.requires.0 c.requires.1 (omega (arith, c.if-u-lt-SYMBOL.false)) c.if-u-v.false
