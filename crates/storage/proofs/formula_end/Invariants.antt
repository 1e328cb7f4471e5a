use Prim.Native.Nat.{◌-◌}
use lib.ListN.{length}
use Rattle.storage.proofs.Ending.{Ending}
use Rattle.storage.proofs.formula_end.Given as goal

abbrev pub invariant-loop-terms : goal.invariant-loop-terms
invariant-loop-terms l = Ending l.words l.from l.terms l.end

abbrev pub decreases-loop-terms : goal.decreases-loop-terms
decreases-loop-terms l = length l.words - l.end
