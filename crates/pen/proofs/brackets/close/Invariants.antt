use Rattle.pen.proofs.Stacks.{Closing}
use Rattle.pen.proofs.brackets.close.Given as goal

abbrev pub invariant-loop-i : goal.invariant-loop-i
invariant-loop-i l = Closing l.initial.area l.area l.stack l.pen.«at» l.end l.pen.top l.i
