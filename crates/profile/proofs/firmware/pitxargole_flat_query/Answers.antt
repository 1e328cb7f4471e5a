-- `profile::firmware::pitxargole_flat_query` meets its contract. Assumes nothing.
use Rattle.std.proofs.Common.{arith}
use Rattle.flatly.specs.Numbers.{query-narrow}
use Rattle.profile.proofs.firmware.pitxargole_flat_query.Goals as goal

pub query_number-requires : goal.query_number-requires
query_number-requires c = rw c.check_flat_query.ensures (query-narrow _ _ (λ i. omega (arith, c.type_inv.book i)) (λ i. omega (arith, c.type_inv.query i)))
