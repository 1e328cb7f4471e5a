use native.Mathlib.Omega.{arith}
use mathlib.Core.Path.{refl}
use Rattle.bounds.specs.CountLaws.{larger-max}
use Rattle.bounds.specs.TallyLaws.{note_symbol, note_variable}
use Rattle.bounds.proofs.clauses.note_word.Goals as goal

pub returns-then-u-ge-SYMBOL : goal.returns-then-u-ge-SYMBOL
returns-then-u-ge-SYMBOL c = note_symbol c.requires.0 c.if-u-ge-SYMBOL.true

pub returns : goal.returns
returns c = note_variable c.requires.0 (omega (arith, c.if-u-ge-SYMBOL.false)) c.id-x.ensures.0 _ c.requires.1 c.get.ensures.0 (larger-max _ _ c.max-c.ensures) refl (larger-max _ _ c.max.ensures)
