use Rattle.records.proofs.Tables.{zeros-met}
use lib.ListN.{length-replicate}
use Prim.Native.Nat.{ℕ}
use Rattle.clashing.proofs.count_kept.Goals as goal

pub meet_both-requires : goal.meet_both-requires
meet_both-requires c = record { book_value = c.requires; table_len = (length-replicate {A = ℕ} 65536 0, zeros-met 65536) }
