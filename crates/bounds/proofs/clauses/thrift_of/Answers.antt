use mathlib.Core.Path.{refl}
use Rattle.bounds.specs.TurnLaws.{zeros}
use Rattle.bounds.proofs.clauses.thrift_of.Goals as goal

pub thrift_with-requires-clause-counts_len : goal.thrift_with-requires-clause-counts_len
thrift_with-requires-clause-counts_len c = (refl, zeros 64)
