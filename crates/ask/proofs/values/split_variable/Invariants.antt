use Rattle.std.proofs.Common.{length}
use Rattle.ask.proofs.values.split_variable.Given as goal

abbrev pub decreases-loop-first : goal.decreases-loop-first
decreases-loop-first l = length l.rest
