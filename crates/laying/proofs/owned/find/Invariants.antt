use lib.ListN.{length}
use mathlib.Core.Path.{◌≡◌}
use Prim.Native.Nat.{◌+◌, ◌≤◌}
use Rattle.laying.proofs.Seeking.{Finding}
use Rattle.laying.proofs.owned.find.Given as goal

abbrev pub invariant-loop-i : goal.invariant-loop-i
invariant-loop-i l = Finding l.text l.table l.from l.n l.«at» l.len l.i × (length l.table ≡ 32768) × (l.from + l.n ≤ 16384) × (l.«at» + l.len ≤ length l.text)
