use native.Mathlib.Omega.{arith}
use Rattle.heap.specs.LoneLaws.{flat-few, flat-inside}
use Rattle.bounds.proofs.plain_size.Goals as goal

pub lone-requires : goal.lone-requires
lone-requires c = (c.requires.0, flat-inside c.loop-due.invariant.ready c.loop-due-test.true)

pub overflow_add-due : goal.overflow_add-due
overflow_add-due c = record { fits = omega (arith, flat-few c.loop-due.invariant.ready, c.arity.ensures.1, c.requires.0.short) }

pub overflow_add-at : goal.overflow_add-at
overflow_add-at c = record { fits = omega (arith, flat-inside c.loop-due.invariant.ready c.loop-due-test.true, c.requires.0.short) }
