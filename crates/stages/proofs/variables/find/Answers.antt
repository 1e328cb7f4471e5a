use native.Mathlib.Omega.{arith}
use Prim.Native.Nat.{◌<◌}
use mathlib.Core.Path.{sym, ap, ◌∙◌}
use lib.ListN.{length}
use Rattle.grammar.specs.Names.{same_name}
use Rattle.nametable.specs.Table.{word}
use Rattle.stages.proofs.Kept.{place-first, place_none, found-more}
use borrow.Author.Rules.{rules}
use Rattle.stages.proofs.variables.find.Goals as goal

pub loop-i-init : goal.loop-i-init
loop-i-init c = (search rules, λ names h j (l : j < 0). absurd (omega arith))

pub is_variable-requires : goal.is_variable-requires
is_variable-requires c = (omega (arith, c.loop-i-test.true, c.requires.0.1.few, c.requires.1), c.requires.2, c.requires.0.1.inside _ c.loop-i-test.true)

pub returns-then-is_variable : goal.returns-then-is_variable
returns-then-is_variable c = λ names h. (place-first (word c.args.text.now c.args.at c.args.len) names _ (omega (arith, h.count, c.loop-i-test.true)) (c.loop-i.invariant.1 names h) (ap (same_name (word c.args.text.now c.args.at c.args.len)) (sym (h.named _ c.loop-i-test.true)) ∙ sym c.is_variable.ensures ∙ c.if-is_variable.true), c.loop-i-test.true)

pub loop-i-preserved : goal.loop-i-preserved
loop-i-preserved c = (search rules, λ names h. found-more (word c.args.text.now c.args.at c.args.len) names _ (c.loop-i.invariant.1 names h) (ap (same_name (word c.args.text.now c.args.at c.args.len)) (sym (h.named _ c.loop-i-test.true)) ∙ sym c.is_variable.ensures ∙ c.if-is_variable.false))

pub returns : goal.returns
returns c = λ names h. sym h.count ∙ place_none _ names (λ j (l : j < length names). c.loop-i.invariant.1 names h j (omega (arith, l, h.count, c.loop-i-test.false)))
