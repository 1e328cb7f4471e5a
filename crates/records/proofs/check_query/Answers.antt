use Rattle.records.proofs.Tables.{zeros-met}
use Rattle.records.proofs.check_query.Goals as goal

pub check_both-requires : goal.check_both-requires
check_both-requires c = zeros-met 1024

pub check_both-requires-2 : goal.check_both-requires-2
check_both-requires-2 c = zeros-met 65536
