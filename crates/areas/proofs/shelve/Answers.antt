use native.Mathlib.Omega.{arith}
use mathlib.Core.Path.{◌≡◌, refl}
use lib.ListN.{length-set}
use Rattle.areas.proofs.Books.{rows_more, shelved}
use Rattle.areas.proofs.shelve.Goals as goal

pub loop-k-init : goal.loop-k-init
loop-k-init c = record { start = λ i l. absurd (omega arith); head = λ i l. absurd (omega arith); body = λ i l. absurd (omega arith) }

pub bounds-shelf-k-in-loop-k : goal.bounds-shelf-k-in-loop-k
bounds-shelf-k-in-loop-k c = simp length-set (omega arith)

pub bounds-shelf-k-in-loop-k-2 : goal.bounds-shelf-k-in-loop-k-2
bounds-shelf-k-in-loop-k-2 c = simp length-set (omega arith)

pub loop-k-preserved : goal.loop-k-preserved
loop-k-preserved c = rows_more _ _ _ _ _ (omega arith) c.loop-k.invariant _ _ _ refl refl refl

pub returns : goal.returns
returns c = let e : c.loop-k.k ≡ c.args.clauses = omega arith in shelved _ _ _ _ _ _ (omega arith) (rw e at c.loop-k.invariant) refl
