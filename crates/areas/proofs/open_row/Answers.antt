use native.Mathlib.Omega.{arith}
use Rattle.areas.proofs.Rows.{opened_twice}
use Rattle.areas.proofs.open_row.Goals as goal

pub repeat-requires : goal.repeat-requires
repeat-requires c = omega (arith, c.open_query-goal.ensures.within, c.open_query-goal.auto.words, c.requires.in_bounds)

pub returns : goal.returns
returns c = record { holds = opened_twice c.open_query-goal.new.words _ c.open_query-goal.result.words _ _ (omega (arith, c.open_query-goal.ensures.within, c.open_query-goal.auto.words, c.requires.in_bounds)) c.repeat.ensures c.open_query-goal.ensures.holds; within = omega (arith, c.open_query-goal.ensures.within) }
