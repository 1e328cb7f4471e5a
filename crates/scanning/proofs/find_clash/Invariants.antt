use Prim.Native.Nat.{◌-◌}
use mathlib.Core.Path.{◌≡◌}
use lib.ListN.{length}
use Rattle.scanning.proofs.Meetings.{Scanning}
use Rattle.scanning.proofs.find_clash.Given as goal

abbrev pub invariant-loop-i : goal.invariant-loop-i
invariant-loop-i l = Scanning l.image l.fn.table l.table l.k l.i × (length l.table ≡ 65536)

abbrev pub decreases-loop-i : goal.decreases-loop-i
decreases-loop-i l = length l.image - l.i
