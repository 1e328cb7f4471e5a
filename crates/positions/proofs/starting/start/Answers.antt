use native.Mathlib.Omega.{arith}
use Rattle.words.specs.Columns.{same, after}
use borrow.Author.Rules.{rules}
use Rattle.positions.proofs.starting.start.Goals as goal

pub loop-p-init : goal.loop-p-init
loop-p-init c = (search rules, search rules, (λ x h. absurd (omega arith)), same)

pub seat-requires : goal.seat-requires
seat-requires c = (c.requires, c.loop-p-test.true, c.loop-p.invariant.2)

pub loop-p-preserved : goal.loop-p-preserved
loop-p-preserved c = (search rules, search rules, c.seat.ensures.0, after c.loop-p.invariant.3 c.seat.ensures.1)

pub returns : goal.returns
returns c = ((λ x h. c.loop-p.invariant.2 x (omega (arith, h, c.loop-p-test.false))), c.loop-p.invariant.3)
