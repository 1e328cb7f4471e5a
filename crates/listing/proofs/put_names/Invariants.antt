use mathlib.Core.Path.{◌≡◌}
use lib.ListN.{length}
use Prim.Native.Nat.{◌≤◌}
use Rattle.listing.proofs.Listed.{Listing}
use Rattle.listing.proofs.put_names.Given as goal

abbrev pub invariant-loop-i : goal.invariant-loop-i
invariant-loop-i l = Listing l.initial.area l.text l.starts l.lens l.kind l.area l.«at» l.i × (length l.area ≡ length l.initial.area) × (l.«at» ≤ length l.area)
