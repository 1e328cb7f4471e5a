use Prim.Native.Nat.{◌+◌, ◌-◌, ◌≤◌}
use mathlib.Core.Path.{◌≡◌}
use mathlib.Core.List.{◌++◌, map}
use lib.ListN.{length, take}
use Rattle.picking.specs.Laying.{moved}
use Rattle.picking.proofs.append.Given as goal

abbrev pub invariant-loop-i : goal.invariant-loop-i
invariant-loop-i l = (l.i ≤ length l.src) × (length l.dst ≡ length l.initial.dst) × (l.«at» + length l.src ≤ length l.initial.dst) × (take (l.«at» + l.i) l.dst ≡ take l.«at» l.initial.dst ++ map (moved l.shift) (take l.i l.src))
