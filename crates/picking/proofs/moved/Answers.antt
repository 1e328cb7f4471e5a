use mathlib.Core.Path.{sym}
use Rattle.picking.proofs.Appends.{moved-low, moved-high}
use Rattle.picking.proofs.moved.Goals as goal

pub returns-then-u-lt-SYMBOL : goal.returns-then-u-lt-SYMBOL
returns-then-u-lt-SYMBOL c = sym (moved-low _ _ c.requires.0 c.if-u-lt-SYMBOL.true)

pub returns : goal.returns
returns c = sym (moved-high _ _ c.if-u-lt-SYMBOL.false)
