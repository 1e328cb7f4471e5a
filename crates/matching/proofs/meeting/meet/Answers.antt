use Prim.Native.Nat.{◌+◌}
use native.Mathlib.Omega.{arith}
use mathlib.Core.Path.{sym as inv, ap, ◌∙◌}
use Rattle.words.specs.Word.{arity_of}
use Rattle.heap.specs.HeapLaws.{row_inside}
use Rattle.matching.proofs.MeetLaws.{met_leaf, met-inside, met-apart}
use Rattle.matching.proofs.meeting.meet.Goals as goal

pub follow-a-requires : goal.follow-a-requires
follow-a-requires c = (c.requires.0, row_inside c.args.heap.now 0 _ c.requires.1)

pub follow-b-requires : goal.follow-b-requires
follow-b-requires c = (c.requires.0, row_inside c.args.heap.now 0 _ c.requires.2)

pub returns-then-k-eq0 : goal.returns-then-k-eq0
returns-then-k-eq0 c = met_leaf c.requires.0 c.follow-a.ensures c.follow-b.ensures c.requires.1 c.requires.2 (inv c.word-x.ensures ∙ c.if-x-y.true ∙ c.word-y.ensures) (ap arity_of (inv c.word-x.ensures) ∙ inv c.arity-k.ensures.0 ∙ c.if-k-eq0.true)

pub returns-then-x-y : goal.returns-then-x-y
returns-then-x-y c = met-inside c.requires.0 c.follow-a.ensures c.follow-b.ensures c.requires.1 c.requires.2 (inv c.word-x.ensures ∙ c.if-x-y.true ∙ c.word-y.ensures) (c.arity-k.ensures.0 ∙ ap arity_of c.word-x.ensures) c.if-k-eq0.false {c = c.follow-a.result + 1} {d = c.follow-b.result + 1} (omega arith) (omega arith)

pub returns : goal.returns
returns c = rw c.apart.ensures (rw c.word-x.ensures (rw c.word-y.ensures (met-apart c.requires.0 c.follow-a.ensures c.follow-b.ensures c.requires.1 c.requires.2 (λ z. c.if-x-y.false (c.word-x.ensures ∙ z ∙ inv c.word-y.ensures)))))
