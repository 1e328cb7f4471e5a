use Rattle.attempts.specs.Facts.{SameWords}
use Rattle.attempts.proofs.facts.stands.Given as goal

abbrev pub invariant-loop-i : goal.invariant-loop-i
invariant-loop-i l = SameWords l.heap l.«at» l.head l.i
