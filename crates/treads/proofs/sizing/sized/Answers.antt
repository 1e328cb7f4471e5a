use borrow.Author.Rules.{rules}
use native.Mathlib.Omega.{arith}
use mathlib.Core.Path.{refl, ◌∙◌}
use lib.ListN.{drop, length-drop}
use lib.Seq.{length-take-le}
use borrow.Rule.Slice.PartMut.{put_mid, same_len_mid}
use Rattle.heapgoals.specs.HoldLaws.{fore-after}
use Rattle.matching.proofs.HangLaws.{none-weighed}
use Rattle.attempts.proofs.Undoing.{trail_long, fore-part}
use Rattle.std.proofs.lemmas.Option.{IfSome_then}
use Rattle.treads.proofs.Summing.{nothing-charged}
use Rattle.treads.proofs.UnderWay.{bounds_hold}
use Rattle.treads.proofs.sizing.sized.Goals as goal

pub slice_bounds-body_adds-count : goal.slice_bounds-body_adds-count
slice_bounds-body_adds-count c = omega arith

pub slice_bounds-body_adds-end : goal.slice_bounds-body_adds-end
slice_bounds-body_adds-end c = omega (arith, c.requires.0.7.held.levels_long)

pub body_adds-requires : goal.body_adds-requires
body_adds-requires c = ((_, _, _, _, _, _, _, _, _, _, c.requires.0.7), omega (arith, length-take-le 514 (drop 514 c.args.levels.now) (omega (arith, length-drop 514 c.args.levels.now, c.requires.0.7.held.levels_long))))

pub bounded-requires : goal.bounded-requires
bounded-requires c = let x = c.in_ok-more.ensures _ _ _ _ _ _ _ _ _ _ c.requires.0.7 in record { most_bound = (c.requires.0.7.held.often_room, c.requires.0.7.held.goal_room, c.requires.0.7.held.answer_room, omega (arith, x.small), x.spread); extra_bound = (omega arith, omega (arith, c.requires.0.7.held.variables_room), omega arith) }

pub returns-then-count-eq0 : goal.returns-then-count-eq0
returns-then-count-eq0 c = record { levels = fore-part c.args.levels.now c.body_adds.new.levels c.requires.0.7.held.levels_long c.body_adds.auto.levels; bounds = IfSome_then c.bounded.result c.bounded.ensures (λ r y book words before f g a d v. bounds_hold v (record { nodes = 1; variables = 1; times = 1 }) (none-weighed c.if-count-eq0.true refl) c.in_ok-more.more (c.in_ok-more.ensures _ _ _ _ _ _ _ _ _ _ v) r (0, _, 1, nothing-charged c.args.s c.args.count, y)) }

pub slice_bounds-weight_of-count : goal.slice_bounds-weight_of-count
slice_bounds-weight_of-count c = omega arith

pub slice_bounds-weight_of-end : goal.slice_bounds-weight_of-end
slice_bounds-weight_of-end c = omega (arith, same_len_mid 514 514 c.args.levels.now c.body_adds.new.levels c.body_adds.auto.levels, c.requires.0.7.held.levels_long)

pub slice_bounds-weight_of-count-2 : goal.slice_bounds-weight_of-count-2
slice_bounds-weight_of-count-2 c = omega arith

pub slice_bounds-weight_of-end-2 : goal.slice_bounds-weight_of-end-2
slice_bounds-weight_of-end-2 c = omega arith

pub weight_of-requires : goal.weight_of-requires
weight_of-requires c = let l = put_mid 514 514 c.args.levels.now c.body_adds.new.levels in record { made = (c.requires.0.7.fitted.more.made, record { each = c.requires.0.7.fitted.undoable.trailed.held }); in_bounds = (omega (arith, length-take-le 514 (drop 514 l) (omega (arith, length-drop 514 l, same_len_mid 514 514 c.args.levels.now c.body_adds.new.levels c.body_adds.auto.levels, c.requires.0.7.held.levels_long))), omega (arith, trail_long c.args.rows.now (search rules), c.requires.0.7.fitted.undoable.few), c.requires.0.7.fitted.undoable.few) }

pub grown_by-requires : goal.grown_by-requires
grown_by-requires c = let x = c.in_ok-more.ensures _ _ _ _ _ _ _ _ _ _ c.requires.0.7 in let y = (c.in_ok-grown.ensures _ c.requires.1) in record { variables_bound = (c.requires.0.7.held.variables_room, c.requires.0.7.held.often_room, c.requires.0.7.held.goal_room, c.requires.0.7.held.answer_room, omega (arith, x.small), x.spread, c.requires.0.7.fitted.undoable.few); le_nodes = (y.grown.some, omega (arith, y.grown.low), y.grown.few, y.room) }

pub returns-in_err-grown-clause-levels : goal.returns-in_err-grown-clause-levels
returns-in_err-grown-clause-levels c = let l = put_mid 514 514 c.args.levels.now c.body_adds.new.levels in fore-after (fore-part c.args.levels.now c.body_adds.new.levels c.requires.0.7.held.levels_long c.body_adds.auto.levels) (fore-part l c.weight_of.new.levels (same_len_mid 514 514 c.args.levels.now c.body_adds.new.levels c.body_adds.auto.levels ∙ c.requires.0.7.held.levels_long) c.weight_of.auto.levels)

pub returns : goal.returns
returns c = let l = put_mid 514 514 c.args.levels.now c.body_adds.new.levels in record { levels = fore-after (fore-part c.args.levels.now c.body_adds.new.levels c.requires.0.7.held.levels_long c.body_adds.auto.levels) (fore-part l c.weight_of.new.levels (same_len_mid 514 514 c.args.levels.now c.body_adds.new.levels c.body_adds.auto.levels ∙ c.requires.0.7.held.levels_long) c.weight_of.auto.levels); bounds = IfSome_then c.grown_by.result c.grown_by.ensures (λ r y book words before f g a d v. bounds_hold v c.in_ok-grown.grown (c.in_ok-grown.ensures _ c.requires.1) c.in_ok-more.more (c.in_ok-more.ensures _ _ _ _ _ _ _ _ _ _ v) r y) }

pub returns-in_err-more-clause-levels : goal.returns-in_err-more-clause-levels
returns-in_err-more-clause-levels c = fore-part c.args.levels.now c.body_adds.new.levels c.requires.0.7.held.levels_long c.body_adds.auto.levels
