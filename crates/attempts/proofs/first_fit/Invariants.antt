use Prim.Native.Nat.{◌-◌}
use Rattle.attempts.proofs.Seeking.{Seeking}
use Rattle.attempts.proofs.first_fit.Given as goal

abbrev pub invariant-loop-i : goal.invariant-loop-i
invariant-loop-i l = Seeking l.book l.shelf l.initial.words l.initial.cells l.initial.rows l.initial.levels l.initial.stack l.s l.all l.u l.words l.cells l.rows l.levels l.stack l.i

abbrev pub decreases-loop-i : goal.decreases-loop-i
decreases-loop-i l = l.all - l.i
