use Rattle.std.proofs.lemmas.Result.{err_from_is_err_and}
use mathlib.Core.Path.{◌∙◌}
use native.Mathlib.Omega.{arith}
use mathlib.Core.Path.{refl}
use Rattle.reader.proofs.Stepping.{kept-sofar}
use Rattle.reader.proofs.Walks.{begins, turning, again, nearer, bad-ends, bad-walk, walk_ends}
use Rattle.reader.proofs.walking.walk.Goals as goal

pub loop-at-init : goal.loop-at-init
loop-at-init c = (begins _ _ _ _ _ _ _ _ _ _ _ c.start-c.ensures refl refl c.requires.0 (rw c.first-b.ensures (kept-sofar c.requires.1.nothing)), refl, refl, refl, refl, refl, refl)

pub piece_at-found-requires : goal.piece_at-found-requires
piece_at-found-requires c = c.loop-at-test.true

pub number_of-v-requires : goal.number_of-v-requires
number_of-v-requires c = ((_, (_, (c.loop-at.invariant.0.now, c.loop-at.invariant.0.held, refl))), c.piece_at-found.ensures)

pub turn-requires : goal.turn-requires
turn-requires c = ((c.loop-at.invariant.0.now, c.loop-at.invariant.0.held), c.piece_at-found.ensures, c.loop-at.invariant.0.short)

pub grow-b-requires : goal.grow-b-requires
grow-b-requires c = record { at = _; before = c.loop-at.invariant.0.now; after = _; sofar = c.loop-at.invariant.0.sofar; turning = turning c.loop-at.invariant.0 c.loop-at-test.true _ c.piece_at-found.ensures c.in_ok-next.was (c.turn.ensures c.loop-at.invariant.0.now c.loop-at.invariant.0.held) _ c.number_of-v.ensures.0 c.number_of-v.ensures.1 }

pub end_of-at-requires : goal.end_of-at-requires
end_of-at-requires c = omega (arith, c.loop-at-test.true, c.loop-at.invariant.0.short)

pub loop-at-smaller : goal.loop-at-smaller
loop-at-smaller c = nearer c.loop-at.invariant.0 c.loop-at-test.true _ c.piece_at-found.ensures c.in_ok-next.was (c.turn.ensures c.loop-at.invariant.0.now c.loop-at.invariant.0.held) _ c.end_of-at.ensures

pub loop-at-preserved : goal.loop-at-preserved
loop-at-preserved c = (again c.loop-at.invariant.0 c.loop-at-test.true _ c.piece_at-found.ensures c.in_ok-next.was (c.turn.ensures c.loop-at.invariant.0.now c.loop-at.invariant.0.held) _ c.end_of-at.ensures (c.grow-b.ensures.sofar _ _ _ c.loop-at.invariant.0.sofar (turning c.loop-at.invariant.0 c.loop-at-test.true _ c.piece_at-found.ensures c.in_ok-next.was (c.turn.ensures c.loop-at.invariant.0.now c.loop-at.invariant.0.held) _ c.number_of-v.ensures.0 c.number_of-v.ensures.1)), c.grow-b.auto.starts ∙ c.loop-at.invariant.1, c.grow-b.auto.lens ∙ c.loop-at.invariant.2, c.grow-b.auto.heads ∙ c.loop-at.invariant.3, c.grow-b.auto.nexts ∙ c.loop-at.invariant.4, c.grow-b.auto.out ∙ c.loop-at.invariant.5, c.grow-b.auto.opens ∙ c.loop-at.invariant.6)

pub returns-in_err-next : goal.returns-in_err-next
returns-in_err-next c = let p = err_from_is_err_and c.from_residual.result c.from_residual.ensures.1 in rw (p.1, p.2) (bad-walk _ _ _ _ _ _ _ _ (bad-ends c.loop-at.invariant.0 c.loop-at-test.true _ c.piece_at-found.ensures _ _ c.in_err-next.was (c.turn.ensures c.loop-at.invariant.0.now c.loop-at.invariant.0.held)))

pub returns : goal.returns
returns c = walk_ends c.loop-at.invariant.0 c.loop-at-test.false _ c.end.ensures
