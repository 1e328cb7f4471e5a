use Prim.Native.Nat.{◌+◌}
use native.Mathlib.Omega.{arith}
use mathlib.Core.Path.{◌≡◌}
use Rattle.flatness.proofs.Marking.{two_or_four, counting-start, counting-body, counting-next, counting-end, one_new, none_new}
use Rattle.flatness.proofs.counting.count_marked.Goals as goal
use Rattle.flatness.proofs.counting.count_marked.Goals.{then-mark, else-mark}

pub loop-at-init : goal.loop-at-init
loop-at-init c = counting-start _ _ _ c.requires.unmarked c.requires.image.records c.requires.image.bytes

pub mark-requires : goal.mark-requires
mark-requires c = counting-body _ _ _ _ _ c.loop-at.invariant c.loop-at-test.true

pub next_at-at-requires : goal.next_at-at-requires
next_at-at-requires c = counting-body _ _ _ _ _ c.loop-at.invariant c.loop-at-test.true

pub loop-at-preserved : goal.loop-at-preserved
loop-at-preserved c =
    let l = c.loop-at in
    let m = c.mark.ensures in
    let none : l.count + 0 ≡ l.count = omega arith in
    elim c.if-mark.branch [
      | then-mark w ↦
          rw w.count-is (counting-next _ _ _ _ _ 1 l.at _ l.invariant (two_or_four c.args.what) c.loop-at-test.true (one_new _ _ _ _ _ m.new w.if-mark.true) m.table c.next_at-at.ensures)
      | else-mark w ↦
          rw w.count-is
          (rw none at (counting-next _ _ _ _ _ 0 l.at _ l.invariant (two_or_four c.args.what) c.loop-at-test.true (none_new _ _ _ _ _ m.new w.if-mark.false) m.table c.next_at-at.ensures))
    ]

pub returns : goal.returns
returns c = counting-end _ _ _ _ _ c.loop-at.invariant c.loop-at-test.false
