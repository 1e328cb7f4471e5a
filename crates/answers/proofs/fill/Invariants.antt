use Rattle.answers.proofs.Clearing.{Copied}
use Rattle.answers.proofs.fill.Given as goal

abbrev pub invariant-loop-i : goal.invariant-loop-i
invariant-loop-i l = Copied l.initial.copy l.copy l.answer l.i
