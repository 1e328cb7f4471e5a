use lib.ListN.{length}
use mathlib.Core.Path.{◌≡◌}
use Prim.Native.Nat.{◌+◌, ◌≤◌}
use Rattle.relisting.proofs.Putting.{Measuring}
use Rattle.relisting.proofs.measure.Given as goal

abbrev pub invariant-loop-i : goal.invariant-loop-i
invariant-loop-i l = Measuring l.table l.from l.count l.sum l.i × (l.from + l.count ≤ 16384) × (length l.table ≡ 32768) × (l.count ≤ 4096)
