-- `office::pitxargole_read_query` meets its contract. Assumes nothing.
use Rattle.std.proofs.Common.{arith}
use Rattle.textnumbers.specs.QueryFigures.{query-narrow}
use Rattle.office.proofs.pitxargole_read_query.Goals as goal

pub query_number-requires : goal.query_number-requires
query_number-requires c = rw c.read_query.ensures.answer (query-narrow _ _ _ _ _ (λ i. omega (arith, c.type_inv.book i)) (λ i. omega (arith, c.type_inv.names i)))
