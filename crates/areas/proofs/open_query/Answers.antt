use native.Mathlib.Omega.{arith}
use Rattle.format.proofs.Decoding.{goal_of-good}
use Rattle.areas.proofs.Good.{goal-loaded, loaded-within}
use Rattle.areas.proofs.open_query.Goals as goal

pub returns : goal.returns
returns c = let good = (goal_of-good _ _ (λ i. omega (arith, c.type_inv.query i)) c.requires.askable.good).0 in record { holds = goal-loaded _ good c.load_goal-n.ensures c.count_formulas.ensures; within = loaded-within _ good c.load_goal-n.ensures }
