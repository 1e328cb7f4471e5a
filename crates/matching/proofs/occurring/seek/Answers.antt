use native.Mathlib.Omega.{arith}
use mathlib.Core.Path.{refl, ◌∙◌}
use Rattle.matching.specs.Occurring.{seek-end, seek-there, seek-on}
use Rattle.matching.proofs.occurring.seek.Goals as goal

pub returns-then-seen-sought : goal.returns-then-seen-sought
returns-then-seen-sought c = seek-there c.loop-w.invariant.0 c.next-seen.ensures c.loop-w.invariant.2 c.requires.made.2 c.if-seen-sought.true

pub loop-w-preserved : goal.loop-w-preserved
loop-w-preserved c = (seek-on c.loop-w.invariant.0 c.next-seen.ensures c.loop-w.invariant.2 c.requires.made.2 c.if-seen-sought.false (omega (arith, c.if-left-eq0.false)) refl, c.next-seen.ensures.long ∙ c.loop-w.invariant.1, c.loop-w.invariant.2)

pub returns : goal.returns
returns c = seek-end c.loop-w.invariant.0 (omega (arith, c.loop-w-test.false))
