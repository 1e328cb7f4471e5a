use native.Mathlib.Omega.{arith}
use mathlib.Core.Path.{refl}
use Rattle.heap.specs.LoneLaws.{flat-few, flat-inside, lone-on}
use Rattle.matching.specs.Occurring.{seek-on}
use Rattle.matching.proofs.occurring.skim.Goals as goal

pub lone-requires : goal.lone-requires
lone-requires c = (c.requires.0, flat-inside c.loop-due.invariant.0.ready c.loop-due-test.true)

pub overflow_add-at : goal.overflow_add-at
overflow_add-at c = record { fits = omega (arith, flat-inside c.loop-due.invariant.0.ready c.loop-due-test.true, c.requires.0.short) }

pub overflow_add-due : goal.overflow_add-due
overflow_add-due c = record { fits = omega (arith, flat-few c.loop-due.invariant.0.ready, c.arity.ensures.1, c.requires.0.short) }

pub loop-due-preserved : goal.loop-due-preserved
loop-due-preserved c = (seek-on c.loop-due.invariant.0 (lone-on c.loop-due.invariant.0.ready c.loop-due-test.true c.in-Some.ensures c.arity.ensures.0 (omega arith) refl) c.loop-due.invariant.1 c.requires.2 c.if-u-sought.false (omega (arith, c.if-left-eq0.false)) refl, c.loop-due.invariant.1)
