use Prim.Native.Nat.{◌%◌}
use native.Mathlib.Omega.{arith}
use mathlib.Core.Path.{refl, sym as inv, ap, ◌∙◌}
use Rattle.heap.specs.HeapLaws.{rows_few}
use Rattle.matching.proofs.PairLaws.{alike-none, alike-more}
use Rattle.matching.proofs.HeadLaws.{left_inside, right_inside, symbol-here, unlike_symbols, on_alike}
use Rattle.matching.proofs.heads.match_first.Goals as goal

pub word-w-requires : goal.word-w-requires
word-w-requires c = right_inside c.requires.made.0 c.args.x c.requires.due.1 c.requires.due.0.left c.requires.due.0.right

pub match_variable-requires-clause-due_nonzero : goal.match_variable-requires-clause-due_nonzero
match_variable-requires-clause-due_nonzero c = (c.requires.due.1, c.requires.due.0.left, c.requires.due.0.right, omega (arith, c.word-w.ensures, c.if-w-lt-SYMBOL.true, (c.requires.made.0.fits _ (right_inside c.requires.made.0 c.args.x c.requires.due.1 c.requires.due.0.left c.requires.due.0.right)).valid.low), c.id.ensures.0 ∙ ap (λ u. u % 65536) c.word-w.ensures)

pub returns-then-w-lt-SYMBOL : goal.returns-then-w-lt-SYMBOL
returns-then-w-lt-SYMBOL c = c.match_variable.ensures _

pub word-u-requires : goal.word-u-requires
word-u-requires c = left_inside c.requires.made.0 c.args.x c.requires.due.1 c.requires.due.0.left c.requires.due.0.right

pub overflow_add-result-then-u-w-2 : goal.overflow_add-result-then-u-w-2
overflow_add-result-then-u-w-2 c = record { fits = omega (arith, rows_few c.args.heap.now c.args.x.due c.args.x.p c.requires.due.0.left, c.requires.made.0.short, c.arity.ensures.1) }

pub returns-then-u-w : goal.returns-then-u-w
returns-then-u-w c = on_alike c.requires.made.0 (alike-more (alike-none _ _ c.requires.due.0.left c.requires.due.0.right) c.requires.due.1 (λ y l. (c.requires.made.0.fits y l).valid) c.word-u.ensures c.word-w.ensures (omega (arith, c.if-u-w.true, c.if-w-lt-SYMBOL.false)) c.if-u-w.true c.arity.ensures.0 (omega arith) (omega arith) (omega arith))

pub returns-then-u-lt-SYMBOL : goal.returns-then-u-lt-SYMBOL
returns-then-u-lt-SYMBOL c = c.match_symbol.ensures _

pub returns : goal.returns
returns c = (refl, unlike_symbols c.requires.made.0 c.args.x c.requires.due.1 c.requires.due.0.left c.requires.due.0.right (symbol-here (left_inside c.requires.made.0 c.args.x c.requires.due.1 c.requires.due.0.left c.requires.due.0.right) (omega (arith, c.word-u.ensures, c.if-u-lt-SYMBOL.false))) (omega (arith, c.word-u.ensures, c.if-u-lt-SYMBOL.false)) (omega (arith, c.word-w.ensures, c.if-w-lt-SYMBOL.false)) (λ z. c.if-u-w.false (c.word-u.ensures ∙ z ∙ inv c.word-w.ensures)))
