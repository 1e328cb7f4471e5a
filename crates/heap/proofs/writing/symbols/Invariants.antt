use Prim.Native.Nat.{◌-◌}
use mathlib.Core.Path.{◌≡◌}
use lib.ListN.{length}
use Rattle.heap.specs.Writing.{Copied}
use Rattle.heap.proofs.writing.symbols.Given as goal

abbrev pub invariant-loop-due : goal.invariant-loop-due
invariant-loop-due l = Copied l.heap l.initial.out (record { at = l.initial.«at»; due = l.initial.due; pen = l.initial.pen }) l.limit l.out (record { at = l.«at»; due = l.due; pen = l.pen }) × (length l.out ≡ length l.initial.out)

abbrev pub decreases-loop-due : goal.decreases-loop-due
decreases-loop-due l = l.limit - l.pen
