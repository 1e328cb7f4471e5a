use native.Mathlib.Omega.{arith}
use Rattle.picking.proofs.Extents.{ahead-start, ahead_in, ahead-few, ahead_step, ahead-end}
use Rattle.picking.proofs.extent.Goals as goal

pub loop-due-init : goal.loop-due-init
loop-due-init c = λ f g n p. ahead-start _ f g n p

pub word-u-requires : goal.word-u-requires
word-u-requires c = let p = c.requires.3 in ahead_in p (c.loop-due.invariant _ _ _ p) c.loop-due-test.true

pub overflow_add-due : goal.overflow_add-due
overflow_add-due c = let p = c.requires.3 in record { fits = omega (arith, ahead-few p (c.loop-due.invariant _ _ _ p), c.arity.ensures.1) }

pub overflow_add-i : goal.overflow_add-i
overflow_add-i c = let p = c.requires.3 in record { fits = omega (arith, ahead_in p (c.loop-due.invariant _ _ _ p) c.loop-due-test.true, p.size) }

pub loop-due-smaller : goal.loop-due-smaller
loop-due-smaller c = let p = c.requires.3 in omega (arith, ahead_in p (c.loop-due.invariant _ _ _ p) c.loop-due-test.true)

pub loop-due-preserved : goal.loop-due-preserved
loop-due-preserved c = λ f g n p. ahead_step p (c.loop-due.invariant f g n p) _ _ c.word-u.ensures c.arity.ensures.0 c.loop-due-test.true

pub returns : goal.returns
returns c = λ f g n p. ahead-end p (c.loop-due.invariant f g n p) c.loop-due-test.false
