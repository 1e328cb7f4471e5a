use native.Mathlib.Omega.{arith}
use Rattle.storage.proofs.Loading.{goal-start, goal-loading}
use Rattle.storage.proofs.load_goal.Goals as goal

pub loop-at-init : goal.loop-at-init
loop-at-init c = goal-start _ _ (λ i. omega (arith, c.type_inv.query i)) c.requires.askable c.requires.in_bounds

pub node_at-word-requires : goal.node_at-word-requires
node_at-word-requires c = search goal-loading

pub bounds-words-n : goal.bounds-words-n
bounds-words-n c = search goal-loading

pub loop-at-preserved : goal.loop-at-preserved
loop-at-preserved c = search goal-loading

pub returns : goal.returns
returns c = search goal-loading
