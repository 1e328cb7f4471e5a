use native.Mathlib.Omega.{arith}
use mathlib.Core.Path.{refl, ◌∙◌}
use lib.ListN.{length-set}
use Rattle.heap.specs.RunLaws.{copied-inside, copied-few, copied_more}
use Rattle.heap.proofs.writing.symbols.Goals as goal

pub word-u-requires : goal.word-u-requires
word-u-requires c = copied-inside c.loop-due.invariant.0 c.loop-due-test.true

pub overflow_add-due : goal.overflow_add-due
overflow_add-due c = record { fits = omega (arith, copied-few c.loop-due.invariant.0 c.loop-due-test.true, c.arity.ensures.1, c.requires.valids.1) }

pub loop-due-preserved : goal.loop-due-preserved
loop-due-preserved c = let i = c.loop-due.invariant in let k = c.requires in (copied_more i.0 c.loop-due-test.true k.valids.0 c.word-u.ensures (omega (arith, c.if-u-lt-SYMBOL.false)) c.if-pen-limit.false k.pen_le_limit.2 c.arity.ensures.0 (omega arith) refl (omega arith), length-set c.loop-due.out c.loop-due.pen c.word-u.result ∙ i.1)
