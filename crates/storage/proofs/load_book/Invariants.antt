use Prim.Native.Nat.{◌-◌}
use lib.ListN.{length}
use Rattle.storage.proofs.BookLoading.{BookLoading}
use Rattle.storage.proofs.load_book.Given as goal

abbrev pub invariant-loop-at : goal.invariant-loop-at
invariant-loop-at l = BookLoading l.book l.initial.words l.words l.initial.starts l.starts l.initial.bodies l.bodies l.n l.k l.«at»

abbrev pub decreases-loop-at : goal.decreases-loop-at
decreases-loop-at l = length l.book - l.«at»
