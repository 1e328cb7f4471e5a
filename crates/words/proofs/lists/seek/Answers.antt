use native.Mathlib.Omega.{arith}
use Rattle.words.proofs.Ways.{approach, nearer, arrived}
use Rattle.words.proofs.lists.seek.Goals as goal

pub first-i-requires : goal.first-i-requires
first-i-requires c = (_, _, c.requires.2)

pub loop-i-init : goal.loop-i-init
loop-i-init c = λ book P o. approach (c.first-i.ensures book P o)

pub next-i-requires : goal.next-i-requires
next-i-requires c = (_, _, c.requires.2, omega (arith, c.loop-i-test.true, c.requires.3))

pub loop-i-smaller : goal.loop-i-smaller
loop-i-smaller c = omega (arith, c.loop-i-test.true, (c.next-i.ensures _ _ c.requires.2 (omega (arith, c.loop-i-test.true, c.requires.3))).low)

pub loop-i-preserved : goal.loop-i-preserved
loop-i-preserved c = λ book P o. nearer (c.loop-i.invariant book P o) c.loop-i-test.true (omega (arith, c.loop-i-test.true, c.requires.3, c.requires.2.long, o.long)) (c.next-i.ensures book P o (omega (arith, c.loop-i-test.true, c.requires.3, c.requires.2.long, o.long)))

pub returns : goal.returns
returns c = λ book P o. arrived (c.loop-i.invariant book P o) c.loop-i-test.false
