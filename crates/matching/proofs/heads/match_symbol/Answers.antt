use Prim.Native.Nat.{◌+◌}
use native.Mathlib.Omega.{arith}
use mathlib.Core.Path.{refl, sym as inv, ap, ◌∙◌}
use Rattle.words.specs.Word.{arity_of}
use Rattle.heap.specs.HeapLaws.{rows_few}
use Rattle.matching.proofs.MeetLaws.{met_leaf, met-inside}
use Rattle.matching.proofs.StepLaws.{more_same}
use Rattle.matching.proofs.HeadLaws.{left-row, right-row, left_inside, right_inside, symbol-here, unlike_symbols, on-behind, on-inside}
use Rattle.matching.proofs.heads.match_symbol.Goals as goal

pub follow-r-requires : goal.follow-r-requires
follow-r-requires c = (c.requires.0, left_inside c.requires.0 c.args.x c.requires.2 c.requires.1.left c.requires.1.right)

pub returns-then-u-w : goal.returns-then-u-w
returns-then-u-w c = λ base. (refl, unlike_symbols c.requires.0 c.args.x c.requires.2 c.requires.1.left c.requires.1.right c.follow-r.ensures (omega (arith, c.word-u.ensures, c.if-u-lt-SYMBOL.false)) (omega (arith, c.requires.3, c.requires.4)) (λ z. c.if-u-w.true (c.word-u.ensures ∙ z ∙ inv c.requires.3)))

pub returns-then-k-eq0 : goal.returns-then-k-eq0
returns-then-k-eq0 c = λ base. on-behind (more_same c.requires.0 (met_leaf c.requires.0 c.follow-r.ensures (symbol-here (right_inside c.requires.0 c.args.x c.requires.2 c.requires.1.left c.requires.1.right) (omega (arith, c.requires.3, c.requires.4))) (left-row c.requires.0 c.args.x c.requires.2 c.requires.1.left c.requires.1.right) (right-row c.requires.0 c.args.x c.requires.2 c.requires.1.left c.requires.1.right) (inv c.word-u.ensures ∙ c.if-u-w.false ∙ c.requires.3) (ap arity_of (inv c.word-u.ensures) ∙ inv c.arity-k.ensures.0 ∙ c.if-k-eq0.true))) (λ v l. refl) c.behind.ensures

pub entered-requires : goal.entered-requires
entered-requires c = (omega (arith, c.behind-rest.ensures.depth, c.if-x-ge-DEEP.false), omega (arith, c.behind-rest.ensures.left_inside, c.requires.0.short), omega (arith, c.behind-rest.ensures.right_inside, c.requires.0.short), omega (arith, c.behind-rest.ensures.due, rows_few c.args.heap.now c.args.x.due c.args.x.p c.requires.1.left, c.requires.0.short), omega (arith, c.behind-rest.ensures.depth, c.if-x-ge-DEEP.false, c.requires.5))

pub returns : goal.returns
returns c = λ base. on-inside c.requires.0 c.behind-rest.ensures (met-inside c.requires.0 c.follow-r.ensures (symbol-here (right_inside c.requires.0 c.args.x c.requires.2 c.requires.1.left c.requires.1.right) (omega (arith, c.requires.3, c.requires.4))) (left-row c.requires.0 c.args.x c.requires.2 c.requires.1.left c.requires.1.right) (right-row c.requires.0 c.args.x c.requires.2 c.requires.1.left c.requires.1.right) (inv c.word-u.ensures ∙ c.if-u-w.false ∙ c.requires.3) (c.arity-k.ensures.0 ∙ ap arity_of c.word-u.ensures) c.if-k-eq0.false {c = c.follow-r.result + 1} {d = c.args.x.q + 1} (omega arith) (omega arith)) c.entered.ensures (omega (arith, c.if-x-ge-DEEP.false))
