use native.Mathlib.Omega.{arith}
use Rattle.heap.specs.HeapLaws.{pass-inside, pass-few, pass_on}
use Rattle.heap.proofs.past.Goals as goal

pub word-u-requires : goal.word-u-requires
word-u-requires c = pass-inside c.loop-due.invariant c.loop-due-test.true

pub overflow_add-due : goal.overflow_add-due
overflow_add-due c = record { fits = omega (arith, pass-few c.loop-due.invariant, c.arity.ensures.1, c.requires.2) }

pub overflow_add-at : goal.overflow_add-at
overflow_add-at c = record { fits = omega (arith, pass-inside c.loop-due.invariant c.loop-due-test.true, c.requires.2) }

pub loop-due-smaller : goal.loop-due-smaller
loop-due-smaller c = omega (arith, pass-inside c.loop-due.invariant c.loop-due-test.true)

pub loop-due-preserved : goal.loop-due-preserved
loop-due-preserved c = let l = c.loop-due-test.true in let x = c.loop-due.invariant in pass_on x (c.requires.0 _ (pass-inside x l)) l c.word-u.ensures c.arity.ensures.0 (omega arith) (omega arith)
