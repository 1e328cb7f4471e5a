use native.Mathlib.Omega.{arith}
use Rattle.matching.proofs.PairLaws.{alike-none, alike-left, alike_right, alike-few, alike-more}
use Rattle.matching.proofs.pairs.past_alike.Goals as goal

pub loop-due-init : goal.loop-due-init
loop-due-init c = alike-none _ _ c.requires.2 c.requires.3

pub word-u-requires : goal.word-u-requires
word-u-requires c = alike-left c.loop-due.invariant c.loop-due-test.true

pub returns-then-u-lt-SYMBOL : goal.returns-then-u-lt-SYMBOL
returns-then-u-lt-SYMBOL c = c.loop-due.invariant

pub word-requires : goal.word-requires
word-requires c = alike_right c.loop-due.invariant c.loop-due-test.true

pub returns-then-u-word : goal.returns-then-u-word
returns-then-u-word c = c.loop-due.invariant

pub overflow_add-due : goal.overflow_add-due
overflow_add-due c = record { fits = omega (arith, alike-few c.loop-due.invariant c.loop-due-test.true, c.arity.ensures.1, c.requires.1) }

pub overflow_add-p : goal.overflow_add-p
overflow_add-p c = record { fits = omega (arith, alike-left c.loop-due.invariant c.loop-due-test.true, c.requires.1) }

pub overflow_add-q : goal.overflow_add-q
overflow_add-q c = record { fits = omega (arith, alike_right c.loop-due.invariant c.loop-due-test.true, c.requires.1) }

pub loop-due-smaller : goal.loop-due-smaller
loop-due-smaller c = omega (arith, alike-left c.loop-due.invariant c.loop-due-test.true)

pub loop-due-preserved : goal.loop-due-preserved
loop-due-preserved c = alike-more c.loop-due.invariant c.loop-due-test.true c.requires.0 c.word-u.ensures c.word.ensures (omega (arith, c.if-u-lt-SYMBOL.false)) c.if-u-word.false c.arity.ensures.0 (omega arith) (omega arith) (omega arith)

pub returns : goal.returns
returns c = c.loop-due.invariant
