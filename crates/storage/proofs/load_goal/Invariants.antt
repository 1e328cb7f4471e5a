use Prim.Native.Nat.{◌-◌}
use lib.ListN.{length}
use Rattle.storage.proofs.Loading.{GoalLoading}
use Rattle.storage.proofs.load_goal.Given as goal

abbrev pub invariant-loop-at : goal.invariant-loop-at
invariant-loop-at l = GoalLoading l.query l.initial.words l.words l.n l.«at»

abbrev pub decreases-loop-at : goal.decreases-loop-at
decreases-loop-at l = length l.query - l.«at»
