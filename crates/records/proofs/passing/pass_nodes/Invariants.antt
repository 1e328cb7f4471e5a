use Prim.Native.Nat.{◌-◌}
use lib.ListN.{length}
use Rattle.format.specs.Arities.{recalled}
use Rattle.records.specs.Passing.{Counted}
use Rattle.records.proofs.Passed.{PassesIn}
use Rattle.records.proofs.passing.pass_nodes.Given as goal

abbrev pub invariant-loop-x : goal.invariant-loop-x
invariant-loop-x l = PassesIn l.most l.limit l.bytes l.initial.x (recalled l.initial.table) l.x (recalled l.table) × Counted l.bytes l.x

abbrev pub decreases-loop-x : goal.decreases-loop-x
decreases-loop-x l = length l.bytes - l.x.at
