use borrow.Author.Rules.{rules}
use native.Mathlib.Omega.{arith}
use mathlib.Core.Path.{refl, ◌∙◌}
use lib.ListN.{length-set}
use lib.Seq.{lt-length-set}
use Rattle.heap.specs.PartLaws.{part-start, part_end, part-over, part_tired, part-under, part_room, part-next, put-fits}
use Rattle.heap.specs.RunLaws.{part-run}
use Rattle.heap.proofs.writing.write.Goals as goal

pub loop-w-init : goal.loop-w-init
loop-w-init c = let k = c.requires in (part-start k.made.1 k.made.2 k.count_le_at.1 k.count_le_at.0 k.cells_len_bound.1 (search rules) k.count_le_at.4 k.by_index, refl, refl, refl, refl)

pub returns-then-at-limit : goal.returns-then-at-limit
returns-then-at-limit c = record { written = part-over c.loop-w.invariant.0 c.loop-w-test.true c.if-at-limit.true c.requires.count_le_at.3; spare = c.loop-w.invariant.4 }

pub returns-then-w-ge-DEEPEST : goal.returns-then-w-ge-DEEPEST
returns-then-w-ge-DEEPEST c = record { written = part_tired _ _ _ c.requires.count_le_at.3; spare = c.loop-w.invariant.4 }

pub name-count-requires : goal.name-count-requires
name-count-requires c = let x = c.loop-w.invariant.0 in let l = part_room x c.if-at-limit.false in (lt-length-set c.loop-w.out c.loop-w.at c.next-seen.result.word l, omega (arith, x.few, x.high, c.requires.count_le_at), put-fits c.next-seen.ensures c.requires.cells_len_bound.0 c.loop-w.out c.loop-w.at l)

pub symbols-run-requires : goal.symbols-run-requires
symbols-run-requires c = let k = c.requires in let l = c.loop-w in let i = l.invariant in let less = part-under i.0 c.if-at-limit.false in let x = c.next-seen in let m = c.name-count in record { valids = ((λ y h. (k.made.0.fits y h).valid), k.made.0.short, x.ensures.ready.front); pen_le_limit = (omega (arith, less), k.count_le_at.3, omega (arith, i.0.out_long, m.auto.words, length-set l.out l.at x.result.word)) }

pub loop-w-preserved : goal.loop-w-preserved
loop-w-preserved c = let k = c.requires in let l = c.loop-w in let i = l.invariant in let less = part-under i.0 c.if-at-limit.false in let x = c.next-seen in let m = c.name-count in let y = c.symbols-run in (part-run (part-next i.0 x.ensures less m.ensures.named m.auto.words (search rules) (omega arith)) y.ensures c.settled-w.ensures, x.ensures.long ∙ i.1, search rules, y.auto.out ∙ m.auto.words ∙ length-set l.out l.at x.result.word ∙ i.3, m.ensures.spare ∙ i.4)

pub returns : goal.returns
returns c = record { written = part_end c.loop-w.invariant.0 (omega (arith, c.loop-w-test.false)) c.requires.count_le_at.3; spare = c.loop-w.invariant.4 }
