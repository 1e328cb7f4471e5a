use native.Mathlib.Omega.{arith}
use mathlib.Core.Path.{refl}
use Rattle.bounds.specs.CountLaws.{larger-max}
use Rattle.bounds.specs.TallyLaws.{take-symbol, take-fresh, take-matched}
use Rattle.bounds.proofs.clauses.take_word.Goals as goal

pub returns-then-u-ge-SYMBOL : goal.returns-then-u-ge-SYMBOL
returns-then-u-ge-SYMBOL c = take-symbol c.requires.0 c.if-u-ge-SYMBOL.true

pub returns-then-c-eq0 : goal.returns-then-c-eq0
returns-then-c-eq0 c = take-fresh c.requires.0 (omega (arith, c.if-u-ge-SYMBOL.false)) c.id-x.ensures.0 _ c.requires.1 (larger-max _ _ c.max-names.ensures) c.get-c.ensures.0 c.if-c-eq0.true

pub returns : goal.returns
returns c = take-matched c.requires.0 (omega (arith, c.if-u-ge-SYMBOL.false)) c.id-x.ensures.0 _ c.requires.1 (larger-max _ _ c.max-names.ensures) c.get-c.ensures.0 c.if-c-eq0.false c.if-c-eq1.false refl
