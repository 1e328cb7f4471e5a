use mathlib.Core.Path.{refl, ◌∙◌}
use native.Mathlib.Omega.{arith}
use Rattle.attempts.proofs.FactLaws.{same_none, same_more, same-all}
use Rattle.attempts.proofs.facts.stands.Goals as goal

pub loop-i-init : goal.loop-i-init
loop-i-init c = same_none c.requires.0

pub loop-i-preserved : goal.loop-i-preserved
loop-i-preserved c = same_more c.loop-i.invariant refl (c.if-u-word.false ∙ c.word.ensures) (omega (arith, c.if-u-lt-SYMBOL.false)) c.loop-i-test.true (omega (arith, c.if-heap-at.false, c.loop-i-test.true, c.requires.0)) refl

pub returns : goal.returns
returns c = λ e. same-all c.loop-i.invariant (omega (arith, c.loop-i-test.false))
