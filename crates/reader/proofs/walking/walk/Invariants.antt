use mathlib.Core.Path.{◌≡◌}
use Prim.Native.Nat.{◌-◌}
use lib.ListN.{length}
use Rattle.reader.specs.Walking.{Going}
use Rattle.reader.proofs.walking.walk.Given as goal

abbrev pub invariant-loop-at : goal.invariant-loop-at
invariant-loop-at l = Going l.text l.counts l.vars l.out l.opens l.starts l.lens l.heads l.nexts l.c l.b l.«at» × (length l.starts ≡ length l.initial.starts) × (length l.lens ≡ length l.initial.lens) × (length l.heads ≡ length l.initial.heads) × (length l.nexts ≡ length l.initial.nexts) × (length l.out ≡ length l.initial.out) × (length l.opens ≡ length l.initial.opens)

abbrev pub decreases-loop-at : goal.decreases-loop-at
decreases-loop-at l = length l.text - l.«at»
