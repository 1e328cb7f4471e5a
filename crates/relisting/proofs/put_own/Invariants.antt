use lib.ListN.{length}
use mathlib.Core.Path.{◌≡◌}
use Prim.Native.Nat.{◌+◌, ◌≤◌}
use Rattle.relisting.proofs.Putting.{Putting}
use Rattle.relisting.proofs.put_own.Given as goal

abbrev pub invariant-loop-i : goal.invariant-loop-i
invariant-loop-i l = Putting l.initial.area l.text l.table l.from l.count l.kind l.first l.area l.«at» l.i × (length l.area ≡ length l.initial.area) × (l.«at» ≤ length l.area) × (l.from + l.count ≤ 16384) × (length l.table ≡ 32768) × (l.first + l.count ≤ 65536)
