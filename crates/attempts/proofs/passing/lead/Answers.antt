use native.Mathlib.Omega.{arith}
use mathlib.Core.Path.{sym as inv, ap, ◌∙◌}
use Rattle.words.specs.Word.{arity_of}
use Rattle.heap.specs.HeapLaws.{row_inside}
use Rattle.attempts.proofs.PassingLaws.{argument-inside, some-arity, lead-bare, lead-variable, lead-symbol}
use Rattle.attempts.proofs.passing.lead.Goals as goal

pub word-requires : goal.word-requires
word-requires c = row_inside c.args.heap.now 0 c.args.at c.requires.1

pub returns-then-arity-eq0 : goal.returns-then-arity-eq0
returns-then-arity-eq0 c = lead-bare (ap arity_of (inv c.word.ensures) ∙ inv c.arity.ensures.0 ∙ c.if-arity-eq0.true)

pub overflow_add-at : goal.overflow_add-at
overflow_add-at c = record { fits = omega (arith, row_inside c.args.heap.now 0 c.args.at c.requires.1, c.requires.0.short) }

pub follow-requires : goal.follow-requires
follow-requires c = (c.requires.0, omega (arith, argument-inside c.args.heap.now c.args.at (λ i l. (c.requires.0.fits i l).valid) c.requires.1 (some-arity c.word.ensures c.arity.ensures.0 c.if-arity-eq0.false)))

pub returns-then-x-lt-SYMBOL : goal.returns-then-x-lt-SYMBOL
returns-then-x-lt-SYMBOL c = lead-variable c.requires.0 (some-arity c.word.ensures c.arity.ensures.0 c.if-arity-eq0.false) c.follow.ensures c.word-x.ensures c.if-x-lt-SYMBOL.true

pub returns : goal.returns
returns c = lead-symbol c.requires.0 (some-arity c.word.ensures c.arity.ensures.0 c.if-arity-eq0.false) c.follow.ensures c.word-x.ensures (omega (arith, c.if-x-lt-SYMBOL.false))
