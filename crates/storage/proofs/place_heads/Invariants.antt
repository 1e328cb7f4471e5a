use Rattle.storage.proofs.Placing.{Placing}
use Rattle.storage.proofs.place_heads.Given as goal

abbrev pub invariant-loop-k : goal.invariant-loop-k
invariant-loop-k l = Placing l.words l.starts l.initial.heads l.heads l.clauses l.k
