use mathlib.Core.Path.{refl, ◌∙◌}
use native.Mathlib.Omega.{arith}
use Rattle.std.proofs.lemmas.Result.{err_from_is_err_and}
use Rattle.turns.proofs.Walking.{starts, again, nearer, bad-ends, walk_ends}
use Rattle.turns.proofs.pass.Goals as goal

pub loop-at-init : goal.loop-at-init
loop-at-init c = (starts c.start-c.result 0 c.start-c.ensures refl c.requires.0 c.requires.1, refl)

pub turn-requires : goal.turn-requires
turn-requires c = (c.loop-at.invariant.0.held, omega (arith, c.loop-at-test.true, c.loop-at.invariant.0.short))

pub end_of-at-requires : goal.end_of-at-requires
end_of-at-requires c = omega (arith, c.loop-at-test.true, c.loop-at.invariant.0.short)

pub loop-at-smaller : goal.loop-at-smaller
loop-at-smaller c = nearer c.piece_at-found.result c.end_of-at.result c.loop-at-test.true c.piece_at-found.ensures c.end_of-at.ensures

pub loop-at-preserved : goal.loop-at-preserved
loop-at-preserved c = (again c.piece_at-found.result c.turn.result _ c.turn.new.counts c.end_of-at.result c.loop-at.invariant.0 c.loop-at-test.true c.piece_at-found.ensures c.turn.ensures.0 c.in_ok-c.was c.turn.ensures.1 c.end_of-at.ensures, c.turn.auto.counts ∙ c.loop-at.invariant.1)

pub returns-in_err-c : goal.returns-in_err-c
returns-in_err-c c = let p = err_from_is_err_and c.from_residual.result c.from_residual.ensures.1 in rw (p.1, p.2) (bad-ends c.piece_at-found.result c.turn.result _ c.loop-at.invariant.0 c.loop-at-test.true c.piece_at-found.ensures c.turn.ensures.0 c.in_err-c.was)

pub returns : goal.returns
returns c = walk_ends c.end.result c.loop-at.invariant.0 c.loop-at-test.false c.end.ensures
