use native.Mathlib.Omega.{arith}
use mathlib.Core.Path.{ap}
use Rattle.std.specs.Prelude.{is_some}
use lib.ListN.{length}
use Rattle.attempts.proofs.PassingLaws.{second_fits, second-read, word_read, over-start, over-on, another, hope-unknown, hope-end, hope-variable, hope-same}
use Prim.Native.Nat.{◌<◌}
use Rattle.attempts.proofs.passing.hopeful.Goals as goal

pub returns-in_default : goal.returns-in_default
returns-in_default c = λ P q o f. hope-unknown (over-start f) c.in_default.is

pub clauses-all-requires : goal.clauses-all-requires
clauses-all-requires c = omega (arith, c.requires.1.2.long)

pub loop-i-init : goal.loop-i-init
loop-i-init c = λ P q o f. over-start f

pub entry-b-requires : goal.entry-b-requires
entry-b-requires c = let e = c.clauses-all.ensures _ c.requires.1.2.long in (omega arith, omega (arith, c.loop-i-test.true, e, c.requires.1.2.held.few), omega (arith, c.loop-i-test.true, e, c.requires.1.2.long))

pub overflow_add-b : goal.overflow_add-b
overflow_add-b c = record { fits = omega (arith, c.entry-b.ensures.1) }

pub word-y-requires : goal.word-y-requires
word-y-requires c = let l : c.loop-i.i < length c.requires.1.0 = omega (arith, c.loop-i-test.true, c.clauses-all.ensures _ c.requires.1.2.long) in second-read c.requires.1.2 c.loop-i.i l ((c.loop-i.invariant _ _ c.requires.1.2 c.requires.1.3).here l) (c.requires.0 (ap is_some c.in-Some.is)) c.entry-b.result c.entry-b.ensures.0

pub returns-then-y-lt-SYMBOL : goal.returns-then-y-lt-SYMBOL
returns-then-y-lt-SYMBOL c = λ P q o f. let l : c.loop-i.i < length P = omega (arith, c.loop-i-test.true, c.clauses-all.ensures _ o.long) in let p = c.loop-i.invariant P q o f in let some = c.requires.0 (ap is_some c.in-Some.is) in rw c.in-Some.is (hope-variable p (word_read o c.loop-i.i l (p.here l) some c.entry-b.result c.entry-b.ensures.0 c.word-y.ensures) (second_fits o c.loop-i.i l (p.here l) some) c.if-y-lt-SYMBOL.true)

pub returns-then-y-x : goal.returns-then-y-x
returns-then-y-x c = λ P q o f. let l : c.loop-i.i < length P = omega (arith, c.loop-i-test.true, c.clauses-all.ensures _ o.long) in let p = c.loop-i.invariant P q o f in rw c.in-Some.is (hope-same p (word_read o c.loop-i.i l (p.here l) (c.requires.0 (ap is_some c.in-Some.is)) c.entry-b.result c.entry-b.ensures.0 c.word-y.ensures) c.if-y-x.true)

pub find_next-i-requires : goal.find_next-i-requires
find_next-i-requires c = (_, c.requires.1.2, omega (arith, c.loop-i-test.true, c.clauses-all.ensures _ c.requires.1.2.long))

pub loop-i-smaller : goal.loop-i-smaller
loop-i-smaller c = let l : c.loop-i.i < length c.requires.1.0 = omega (arith, c.loop-i-test.true, c.clauses-all.ensures _ c.requires.1.2.long) in omega (arith, (c.find_next-i.ensures _ c.requires.1.2 l ((c.loop-i.invariant _ _ c.requires.1.2 c.requires.1.3).here l)).low, c.loop-i-test.true)

pub loop-i-preserved : goal.loop-i-preserved
loop-i-preserved c = λ P q o f. let l : c.loop-i.i < length P = omega (arith, c.loop-i-test.true, c.clauses-all.ensures _ o.long) in let p = c.loop-i.invariant P q o f in let e = word_read o c.loop-i.i l (p.here l) (c.requires.0 (ap is_some c.in-Some.is)) c.entry-b.result c.entry-b.ensures.0 c.word-y.ensures in over-on p (another e (omega (arith, c.if-y-lt-SYMBOL.false)) c.if-y-x.false) (c.find_next-i.ensures P o l (p.here l))

pub returns : goal.returns
returns c = λ P q o f. rw c.in-Some.is (hope-end (c.loop-i.invariant P q o f) (omega (arith, c.loop-i-test.false, c.clauses-all.ensures _ o.long)))
