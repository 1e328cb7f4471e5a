use native.Mathlib.Omega.{arith}
use mathlib.Core.Path.{refl}
use Rattle.numbering.specs.Naming.{table, back}
use Rattle.numbering.proofs.Names.{upto-start, upto-more, upto-end}
use borrow.Author.Rules.{rules}
use Rattle.numbering.proofs.renumber.Goals as goal

pub loop-i-init : goal.loop-i-init
loop-i-init c = (search rules, refl, search rules, search rules, upto-start _ _ _)

pub name-count-requires : goal.name-count-requires
name-count-requires c = let l = c.loop-i in (omega (arith, l.invariant.1, l.invariant.3), omega (arith, l.invariant.4.few), rw (l.invariant.4.rest l.i (omega arith)) (c.requires.2 l.i c.loop-i-test.true))

pub loop-i-preserved : goal.loop-i-preserved
loop-i-preserved c = (search rules, search rules, search rules, c.loop-i.invariant.3, upto-more _ c.loop-i.words (table c.loop-i.rows) (back c.loop-i.rows) c.loop-i.i c.loop-i.count _ _ _ _ c.loop-i.invariant.1 c.name-count.auto.words (omega (arith, c.loop-i.invariant.1, c.loop-i.invariant.3, c.loop-i-test.true)) c.loop-i.invariant.4 c.name-count.ensures.named)

pub shape_of-words : goal.shape_of-words
shape_of-words c = c.loop-i.invariant.1

pub returns : goal.returns
returns c = upto-end _ _ _ _ _ _ _ (omega (arith, c.loop-i.invariant.0, c.loop-i-test.false)) c.loop-i.invariant.4
