use Rattle.rides.proofs.Goes.{comes-first, comes-kept, comes-something, comes-few, held-something, held-went, step-asks, step-allowed, stays-something, stays-went, goes_on, goes-top, goes_step, goes-budget, front_less}
use Prim.Native.Nat.{◌≤◌}
use native.Mathlib.Omega.{arith}
use mathlib.Core.Path.{refl, sym, ◌∙◌}
use Rattle.figures.specs.FigureLaws.{figured-none}
use borrow.Author.Rules.{rules}
use Rattle.rides.proofs.go_on.Goals as goal

pub loop-ahead-init : goal.loop-ahead-init
loop-ahead-init c = (c.requires.lent.0, refl, refl, refl, omega arith, c.requires.book_on, comes-first _ _ _ _ _ _ _ _ c.stand_at-s.ensures.held c.requires.lent.1 c.requires.lent.0.cells_length refl, refl, refl, refl, refl, figured-none _ _ 1024, omega (arith, c.stand_at-s.ensures.top), refl)

pub slice_bounds-look_ahead-end : goal.slice_bounds-look_ahead-end
slice_bounds-look_ahead-end c = sym c.loop-ahead.invariant.1

pub look_ahead-requires : goal.look_ahead-requires
look_ahead-requires c = (comes-kept _ _ _ _ _ _ _ _ _ _ _ c.loop-ahead.invariant.5 c.loop-ahead.invariant.6, comes-something _ _ _ _ _ _ _ _ _ _ _ c.loop-ahead.invariant.5 c.loop-ahead.invariant.6)

pub finish-requires : goal.finish-requires
finish-requires c = (c.loop-ahead.invariant.4, held-something _ _ _ _ _ _ _ _ _ _ _ c.loop-ahead.invariant.5 c.loop-ahead.invariant.6 _ c.look_ahead.ensures.held)

pub returns-in_default : goal.returns-in_default
returns-in_default c = record { went = held-went _ _ _ _ _ _ _ _ _ _ _ c.loop-ahead.invariant.5 c.loop-ahead.invariant.6 _ c.look_ahead.ensures.held c.args.start.place.detector.step c.finish.new.out c.finish.result c.loop-ahead.invariant.3 c.finish.ensures.went; free = c.finish.ensures.free; row = c.loop-ahead.invariant.13 }

pub slice_bounds-take_step-end-in-loop-ahead : goal.slice_bounds-take_step-end-in-loop-ahead
slice_bounds-take_step-end-in-loop-ahead c = sym c.loop-ahead.invariant.2

pub take_step-requires : goal.take_step-requires
take_step-requires c = record { words_len_bound = (c.loop-ahead.invariant.0.words_length, c.loop-ahead.invariant.2, c.loop-ahead.invariant.11); book_on = step-asks _ _ _ _ _ _ _ _ _ _ _ c.loop-ahead.invariant.5 c.loop-ahead.invariant.6 _ c.look_ahead.ensures.held _ _ c.in-Some.ensures.foreseen.1 }

pub finish-requires-in_default-take_step : goal.finish-requires-in_default-take_step
finish-requires-in_default-take_step c = (c.loop-ahead.invariant.4, stays-something _ _ _ _ _ _ _ _ _ _ _ c.loop-ahead.invariant.5 c.loop-ahead.invariant.6 _ c.look_ahead.ensures.held _ c.in-Some.ahead c.in-Some.ensures.foreseen.1 _ _ _ c.take_step.result c.take_step.ensures.treads c.in_default-take_step.is)

pub returns-in_default-take_step : goal.returns-in_default-take_step
returns-in_default-take_step c = record { went = stays-went _ _ _ _ _ _ _ _ _ _ _ c.loop-ahead.invariant.5 c.loop-ahead.invariant.6 _ c.look_ahead.ensures.held _ c.in-Some.ahead c.in-Some.ensures.foreseen.1 _ _ _ c.take_step.result c.take_step.ensures.treads c.in_default-take_step.is c.args.start.place.detector.step c.finish-in_default-take_step.new.out c.finish-in_default-take_step.result c.loop-ahead.invariant.3 c.finish-in_default-take_step.ensures.went; free = c.finish-in_default-take_step.ensures.free; row = front_less _ _ c.loop-ahead.invariant.12 c.take_step.ensures.words ∙ c.loop-ahead.invariant.13 }

pub keep-kept-requires : goal.keep-kept-requires
keep-kept-requires c = let z : c.in-Some.ahead.kept ≤ 4096 = c.in-Some.ensures.foreseen.0 in (omega (arith, z, c.loop-ahead.invariant.0.out_length), omega (arith, z, c.loop-ahead.invariant.0.saved_room))

pub overflow_cast-s : goal.overflow_cast-s
overflow_cast-s c = record { fits = omega (arith, comes-few _ _ _ _ _ _ _ _ _ _ _ c.loop-ahead.invariant.5 c.loop-ahead.invariant.6) }

pub onward-x-requires : goal.onward-x-requires
onward-x-requires c = omega (arith, step-allowed _ _ _ _ _ _ _ _ _ _ _ c.loop-ahead.invariant.5 c.loop-ahead.invariant.6 _ c.look_ahead.ensures.held _ c.in-Some.ahead c.in-Some.ensures.foreseen.1, c.loop-ahead.invariant.3)

pub loop-ahead-smaller : goal.loop-ahead-smaller
loop-ahead-smaller c = omega (arith, goes_step _ _ _ _ _ _ _ _ _ _ _ c.loop-ahead.invariant.5 c.loop-ahead.invariant.6 _ c.look_ahead.ensures.held _ c.in-Some.ahead c.in-Some.ensures.foreseen.1 _ _ _ c.take_step.result c.take_step.ensures.treads _ c.in-Some-take_step.is _ _ (omega (arith, c.in-Some.ensures.foreseen.0, c.loop-ahead.invariant.0.out_length)) (omega (arith, c.in-Some.ensures.foreseen.0, c.loop-ahead.invariant.0.saved_room)) c.keep-kept.ensures _ c.onward-x.ensures c.loop-ahead.invariant.3, step-allowed _ _ _ _ _ _ _ _ _ _ _ c.loop-ahead.invariant.5 c.loop-ahead.invariant.6 _ c.look_ahead.ensures.held _ c.in-Some.ahead c.in-Some.ensures.foreseen.1, c.loop-ahead.invariant.3)

pub loop-ahead-preserved : goal.loop-ahead-preserved
loop-ahead-preserved c = (record { words_length = omega (arith, c.loop-ahead.invariant.0.words_length, c.take_step.auto.words); cells_length = c.take_step.auto.cells ∙ c.loop-ahead.invariant.0.cells_length; rows_length = search rules; saved_room = omega (arith, c.loop-ahead.invariant.0.saved_room, c.keep-kept.auto.saved); out_length = search rules }, c.take_step.auto.levels ∙ c.look_ahead.auto.levels ∙ c.loop-ahead.invariant.1, c.take_step.auto.stack ∙ c.loop-ahead.invariant.2, goes-budget _ _ _ _ _ _ _ _ _ _ _ c.loop-ahead.invariant.5 c.loop-ahead.invariant.6 _ c.look_ahead.ensures.held _ c.in-Some.ahead c.in-Some.ensures.foreseen.1 _ _ _ c.take_step.result c.take_step.ensures.treads _ c.in-Some-take_step.is _ _ (omega (arith, c.in-Some.ensures.foreseen.0, c.loop-ahead.invariant.0.out_length)) (omega (arith, c.in-Some.ensures.foreseen.0, c.loop-ahead.invariant.0.saved_room)) c.keep-kept.ensures _ c.onward-x.ensures c.loop-ahead.invariant.3, omega (arith, goes_step _ _ _ _ _ _ _ _ _ _ _ c.loop-ahead.invariant.5 c.loop-ahead.invariant.6 _ c.look_ahead.ensures.held _ c.in-Some.ahead c.in-Some.ensures.foreseen.1 _ _ _ c.take_step.result c.take_step.ensures.treads _ c.in-Some-take_step.is _ _ (omega (arith, c.in-Some.ensures.foreseen.0, c.loop-ahead.invariant.0.out_length)) (omega (arith, c.in-Some.ensures.foreseen.0, c.loop-ahead.invariant.0.saved_room)) c.keep-kept.ensures _ c.onward-x.ensures c.loop-ahead.invariant.3, c.loop-ahead.invariant.4), c.loop-ahead.invariant.5, goes_on _ _ _ _ _ _ _ _ _ _ _ c.loop-ahead.invariant.5 c.loop-ahead.invariant.6 _ c.look_ahead.ensures.held _ c.in-Some.ahead c.in-Some.ensures.foreseen.1 _ _ _ c.take_step.result c.take_step.ensures.treads _ c.in-Some-take_step.is _ _ (omega (arith, c.in-Some.ensures.foreseen.0, c.loop-ahead.invariant.0.out_length)) (omega (arith, c.in-Some.ensures.foreseen.0, c.loop-ahead.invariant.0.saved_room)) c.keep-kept.ensures _ c.onward-x.ensures c.loop-ahead.invariant.3, c.take_step.auto.words ∙ c.loop-ahead.invariant.7, c.take_step.auto.cells ∙ c.loop-ahead.invariant.8, c.keep-kept.auto.saved ∙ c.loop-ahead.invariant.9, c.loop-ahead.invariant.10, c.take_step.ensures.figured, omega (arith, goes-top _ _ _ _ _ _ _ _ _ _ _ c.loop-ahead.invariant.5 c.loop-ahead.invariant.6 _ c.look_ahead.ensures.held _ c.in-Some.ahead c.in-Some.ensures.foreseen.1 _ _ _ c.take_step.result c.take_step.ensures.treads _ c.in-Some-take_step.is _ _ (omega (arith, c.in-Some.ensures.foreseen.0, c.loop-ahead.invariant.0.out_length)) (omega (arith, c.in-Some.ensures.foreseen.0, c.loop-ahead.invariant.0.saved_room)) c.keep-kept.ensures _ c.onward-x.ensures c.loop-ahead.invariant.3, c.loop-ahead.invariant.12), front_less _ _ c.loop-ahead.invariant.12 c.take_step.ensures.words ∙ c.loop-ahead.invariant.13)
