use native.Mathlib.Omega.{arith}
use mathlib.Core.Path.{refl, sym as inv, ap, ◌∙◌, subst}
use Rattle.words.specs.Word.{Valid}
use Rattle.picking.specs.Laying.{moved}
use Rattle.picking.proofs.Appends.{begin, more, done}
use borrow.Author.Rules.{rules}
use Rattle.picking.proofs.append.Goals as goal

pub loop-i-init : goal.loop-i-init
loop-i-init c = (search rules, refl, search rules, begin c.args.dst.now c.args.at)

pub moved-requires : goal.moved-requires
moved-requires c = (c.requires.3 c.loop-i.i c.loop-i-test.true, search rules)

pub loop-i-preserved : goal.loop-i-preserved
loop-i-preserved c = (search rules, search rules, search rules, more _ c.loop-i.dst c.args.src.now c.args.at c.loop-i.i c.args.shift c.moved.result (omega (arith, c.loop-i.invariant.1, c.loop-i.invariant.2, c.loop-i-test.true)) c.loop-i-test.true c.loop-i.invariant.3 (c.moved.ensures))

pub returns : goal.returns
returns c = done _ _ _ _ _ _ (omega (arith, c.loop-i.invariant.0, c.loop-i-test.false)) c.loop-i.invariant.3
