use Prim.Native.Nat.{◌-◌}
use lib.ListN.{length}
use Rattle.answers.proofs.Clearing.{Clearing}
use Rattle.answers.proofs.clear.Given as goal

abbrev pub invariant-loop-copy : goal.invariant-loop-copy
invariant-loop-copy l = Clearing l.initial.copy l.copy l.«at»

abbrev pub decreases-loop-copy : goal.decreases-loop-copy
decreases-loop-copy l = length l.copy - l.«at»
