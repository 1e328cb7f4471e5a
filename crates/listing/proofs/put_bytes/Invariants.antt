use mathlib.Core.Path.{◌≡◌}
use lib.ListN.{length}
use Rattle.listing.proofs.Filled.{Copying}
use Rattle.listing.proofs.put_bytes.Given as goal

abbrev pub invariant-loop-i : goal.invariant-loop-i
invariant-loop-i l = Copying l.initial.area l.area l.s l.start l.len l.i × (length l.area ≡ length l.initial.area)
