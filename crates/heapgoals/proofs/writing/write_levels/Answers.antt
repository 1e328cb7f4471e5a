use Prim.Native.Nat.{◌-◌}
use native.Mathlib.Omega.{arith}
use mathlib.Core.Path.{refl, ◌∙◌}
use Rattle.heapgoals.specs.HoldLaws.{fore-same, fore-after}
use Rattle.heapgoals.proofs.Shows.{level-read, low-start, low-on, low_end, laid-over}
use Rattle.heapgoals.proofs.writing.write_levels.Goals as goal

pub loop-n-init : goal.loop-n-init
loop-n-init c = (low-start c.requires.count_le_at.1 c.requires.count_le_at.0 c.requires.by_index, fore-same, refl)

pub get-requires : goal.get-requires
get-requires c = omega (arith, c.loop-n.invariant.0.low, c.loop-n.invariant.1.long, c.requires.made.3, c.requires.cells_len.1)

pub get-requires-in-loop-n : goal.get-requires-in-loop-n
get-requires-in-loop-n c = omega (arith, c.loop-n.invariant.0.low, c.loop-n.invariant.1.long, c.requires.made.3, c.requires.cells_len.1)

pub put-pen-requires : goal.put-pen-requires
put-pen-requires c = record { made = (c.requires.made.0, (level-read c.args.heap.now c.requires.made.2 c.loop-n.invariant.1 c.requires.made.3 (c.loop-n.n - 1) (omega (arith, c.loop-n.invariant.0.low, c.loop-n-test.true)) c.get.ensures.0 c.get-in-loop-n.ensures.0).0, refl); by_index = c.loop-n.invariant.0.named; cells_len = (c.requires.cells_len.0, c.loop-n.invariant.1.long ∙ c.requires.cells_len.1); count_le_at = (c.loop-n.invariant.0.few, c.loop-n.invariant.0.high, omega arith, omega arith) }

pub shape_of-levels-then-pen-gt4096 : goal.shape_of-levels-then-pen-gt4096
shape_of-levels-then-pen-gt4096 c = c.put-pen.auto.levels ∙ c.loop-n.invariant.1.long

pub returns-then-pen-gt4096 : goal.returns-then-pen-gt4096
returns-then-pen-gt4096 c = record { laid = laid-over c.if-pen-gt4096.true; fore = fore-after c.loop-n.invariant.1 c.put-pen.ensures.fore; spare = c.put-pen.ensures.spare ∙ c.loop-n.invariant.2 }

pub loop-n-preserved : goal.loop-n-preserved
loop-n-preserved c = let m = level-read c.args.heap.now c.requires.made.2 c.loop-n.invariant.1 c.requires.made.3 (c.loop-n.n - 1) (omega (arith, c.loop-n.invariant.0.low, c.loop-n-test.true)) c.get.ensures.0 c.get-in-loop-n.ensures.0 in (low-on c.loop-n.invariant.0 {k = c.loop-n.n - 1} (omega (arith, c.loop-n-test.true)) m.1 m.2 c.put-pen.ensures.laid (omega (arith, c.if-pen-gt4096.false)) c.requires.made.1, fore-after c.loop-n.invariant.1 c.put-pen.ensures.fore, c.put-pen.ensures.spare ∙ c.loop-n.invariant.2)

pub shape_of-levels : goal.shape_of-levels
shape_of-levels c = c.loop-n.invariant.1.long

pub returns : goal.returns
returns c = record { laid = low_end c.loop-n.invariant.0 (omega (arith, c.loop-n-test.false)); fore = c.loop-n.invariant.1; spare = c.loop-n.invariant.2 }
