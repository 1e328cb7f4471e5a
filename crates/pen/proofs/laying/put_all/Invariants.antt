use lib.ListN.{take}
use Rattle.printouts.specs.Laying.{Lays}
use Rattle.pen.proofs.laying.put_all.Given as goal

abbrev pub invariant-loop-b : goal.invariant-loop-b
invariant-loop-b l = Lays l.initial.area l.area l.«at» l.end (take l.b-index l.bytes)
