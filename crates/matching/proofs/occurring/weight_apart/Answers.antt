use native.Mathlib.Omega.{arith}
use mathlib.Core.Path.{refl, sym as inv}
use Rattle.heap.specs.LoneLaws.{flat-few, flat-inside, lone-on}
use Rattle.bounds.specs.CountLaws.{larger-max, tally-on, tally-end, count-on, count-end}
use Rattle.matching.specs.Occurring.{seek-on, seek-end}
use Rattle.matching.proofs.HangLaws.{heavy}
use Rattle.matching.proofs.occurring.weight_apart.Goals as goal

pub lone-requires : goal.lone-requires
lone-requires c = (c.requires.0, flat-inside c.loop-due.invariant.0.ready c.loop-due-test.true)

pub overflow_add-due : goal.overflow_add-due
overflow_add-due c = record { fits = omega (arith, flat-few c.loop-due.invariant.0.ready, c.arity.ensures.1, c.requires.0.short) }

pub overflow_add-at : goal.overflow_add-at
overflow_add-at c = record { fits = omega (arith, flat-inside c.loop-due.invariant.0.ready c.loop-due-test.true, c.requires.0.short) }

pub loop-due-preserved : goal.loop-due-preserved
loop-due-preserved c = let n = lone-on c.loop-due.invariant.0.ready c.loop-due-test.true c.in_ok-u.ensures c.arity.ensures.0 (omega arith) refl in (count-on c.loop-due.invariant.0 n c.if-nodes-eq4096.false c.one_if_variable-variables.ensures.0 c.one_if_variable-variables.ensures.1 refl refl, seek-on c.loop-due.invariant.1 n c.loop-due.invariant.2 c.requires.3 (λ e. c.if-sought-u.false (inv e)) (omega (arith, c.loop-due.invariant.0.low, c.if-nodes-eq4096.false)) (omega arith), c.loop-due.invariant.2, tally-on _ c.loop-due.invariant.3 n c.one_if_old-old.ensures.0 refl, omega (arith, c.loop-due.invariant.4, c.one_if_old-old.ensures.1, c.one_if_variable-variables.ensures.0))

pub returns-clause-heavy : goal.returns-clause-heavy
returns-clause-heavy c = heavy c.args.base c.args.p _ _ _ c.requires.1 c.requires.2 (count-end c.loop-due.invariant.0 (omega (arith, c.loop-due-test.false))) (tally-end _ c.loop-due.invariant.3 c.loop-due.invariant.0.ready (omega (arith, c.loop-due-test.false))) c.loop-due.invariant.4 (larger-max _ _ c.max.ensures) (larger-max _ _ c.max-2.ensures)

pub returns-clause-apart : goal.returns-clause-apart
returns-clause-apart c = (seek-end c.loop-due.invariant.1 (omega (arith, c.loop-due-test.false))).1
