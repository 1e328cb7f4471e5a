use mathlib.Core.Path.{refl, ◌∙◌}
use borrow.Author.Tests.{ltb-true}
use native.Mathlib.Omega.{arith}
use Rattle.heapgoals.proofs.Tells.{mid_longer, mid_shorter, mid_other, mid_on}
use Rattle.heapgoals.proofs.telling.differs_within.Goals as goal

pub returns-then-w-eq0 : goal.returns-then-w-eq0
returns-then-w-eq0 c = λ e. mid_shorter c.loop-v.invariant.0 c.args.saved.now (omega arith) (omega (arith, c.if-w-eq0.true)) c.loop-v-test.true

pub returns-then-parted : goal.returns-then-parted
returns-then-parted c = λ e. mid_other c.loop-v.invariant.0 c.next-seen.ensures c.args.saved.now (omega arith) c.loop-v-test.true refl (c.parted.ensures c.if-parted.true)

pub loop-v-preserved : goal.loop-v-preserved
loop-v-preserved c = (mid_on c.loop-v.invariant.0 c.next-seen.ensures c.loop-v-test.true (omega arith), c.next-seen.ensures.long ∙ c.loop-v.invariant.1)

pub returns : goal.returns
returns c = λ e. mid_longer c.loop-v.invariant.0 c.args.saved.now (omega arith) (ltb-true _ _ e) (omega (arith, c.loop-v.invariant.0.high, c.loop-v-test.false))
