use native.Mathlib.Omega.{arith}
use mathlib.Core.Path.{refl}
use Prim.Native.Nat.{◌-◌, ◌*◌}
use lib.ListN.{length-set}
use Rattle.heap.specs.HeapLaws.{rows_few}
use Rattle.treads.proofs.Entering.{enter_none, enter_alone, enter_more}
use Rattle.treads.proofs.entered.Goals as goal

pub behind_first-rest-requires : goal.behind_first-rest-requires
behind_first-rest-requires c = (c.requires.valids.0, c.requires.valids.1, c.requires.valids.2, c.requires.valids.3)

pub overflow_sub-due : goal.overflow_sub-due
overflow_sub-due c = omega (arith, c.requires.valids.3)

pub settled-requires : goal.settled-requires
settled-requires c = (omega (arith, c.requires.levels.1), omega (arith, c.requires.levels.1, c.requires.levels.2))

pub returns-then-k-eq0 : goal.returns-then-k-eq0
returns-then-k-eq0 c = enter_none c.args.heap.now c.args.levels.now c.args.s c.args.body c.args.k c.behind_first-rest.result (c.args.s.due - 1) c.behind_first-rest.ensures refl c.requires.levels.1 c.requires.levels.2 c.requires.levels.0 c.if-k-eq0.true c.settled.ensures

pub returns-then-due-eq0 : goal.returns-then-due-eq0
returns-then-due-eq0 c = enter_alone c.args.heap.now c.args.levels.now c.args.s c.args.body c.args.k c.behind_first-rest.result (c.args.s.due - 1) c.behind_first-rest.ensures refl c.requires.levels.1 c.requires.levels.2 c.requires.levels.0 c.requires.valids.4 c.if-k-eq0.false c.if-due-eq0.true

pub overflow_cast-levels : goal.overflow_cast-levels
overflow_cast-levels c = record { fits = omega (arith, c.behind_first-rest.ensures.inside, c.requires.valids.1) }

pub overflow_mul-levels : goal.overflow_mul-levels
overflow_mul-levels c = record { fits = omega (arith, c.requires.levels.1) }

pub offset_bounds-levels-depth : goal.offset_bounds-levels-depth
offset_bounds-levels-depth c = record { fits = omega (arith, c.requires.levels.1) }

pub bounds-levels-depth : goal.bounds-levels-depth
bounds-levels-depth c = omega (arith, c.requires.levels.1, c.requires.levels.2)

pub overflow_cast-levels-2 : goal.overflow_cast-levels-2
overflow_cast-levels-2 c = record { fits = omega (arith, rows_few c.args.heap.now c.args.s.due c.args.s.at c.requires.valids.2, c.requires.valids.1) }

pub overflow_mul-levels-2 : goal.overflow_mul-levels-2
overflow_mul-levels-2 c = record { fits = omega (arith, c.requires.levels.1) }

pub overflow_add-levels : goal.overflow_add-levels
overflow_add-levels c = record { fits = omega (arith, c.requires.levels.1) }

pub offset_bounds-levels-depth-2 : goal.offset_bounds-levels-depth-2
offset_bounds-levels-depth-2 c = record { fits = omega (arith, c.requires.levels.1) }

pub bounds-levels-depth-2 : goal.bounds-levels-depth-2
bounds-levels-depth-2 c = omega (arith, c.requires.levels.1, c.requires.levels.2, length-set c.args.levels.now (2 * c.args.s.depth) c.behind_first-rest.result)

pub overflow_add-result : goal.overflow_add-result
overflow_add-result c = record { fits = omega (arith, c.requires.levels.1) }

pub returns : goal.returns
returns c = enter_more c.args.heap.now c.args.levels.now c.args.s c.args.body c.args.k c.behind_first-rest.result (c.args.s.due - 1) c.behind_first-rest.ensures refl c.requires.levels.1 c.requires.levels.2 c.requires.levels.0 c.requires.valids.4 c.if-k-eq0.false c.if-due-eq0.false (omega arith)
