use Rattle.records.proofs.Tables.{zeros-met}
use Rattle.flatness.proofs.counting.count.Goals as goal

pub count_marked-requires-clause-unmarked : goal.count_marked-requires-clause-unmarked
count_marked-requires-clause-unmarked c = zeros-met 65536
