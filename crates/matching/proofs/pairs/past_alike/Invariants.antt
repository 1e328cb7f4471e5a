use Prim.Native.Nat.{◌-◌}
use lib.ListN.{length}
use Rattle.matching.specs.Pairs.{Alike}
use Rattle.matching.proofs.pairs.past_alike.Given as goal

abbrev pub invariant-loop-due : goal.invariant-loop-due
invariant-loop-due l = Alike l.heap (record { p = l.initial.p; q = l.initial.q; due = l.initial.due; depth = l.x.depth }) (record { p = l.p; q = l.q; due = l.due; depth = l.x.depth })

abbrev pub decreases-loop-due : goal.decreases-loop-due
decreases-loop-due l = length l.heap - l.p
