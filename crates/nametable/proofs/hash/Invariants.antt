use Rattle.nametable.proofs.Words.{Hashing}
use Rattle.nametable.proofs.hash.Given as goal

abbrev pub invariant-loop-b : goal.invariant-loop-b
invariant-loop-b l = Hashing l.name l.b-index l.h
