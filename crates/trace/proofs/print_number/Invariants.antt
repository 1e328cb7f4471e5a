use Rattle.std.proofs.Common.{◌≤◌}
use Rattle.trace.proofs.print_number.Given as goal

abbrev pub invariant-loop-at : goal.invariant-loop-at
invariant-loop-at g l = l.first ≤ 9
