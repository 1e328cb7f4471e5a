use Prim.Native.Nat.{◌<◌}
use native.Mathlib.Omega.{arith}
use mathlib.Core.Path.{sym as inv, ◌∙◌}
use lib.ListN.{length}
use Rattle.words.proofs.Ways.{going, going_on, found, none_found, start-inside, head_read}
use borrow.Author.Rules.{rules}
use Rattle.words.proofs.lists.along.Goals as goal

pub clauses-all-requires : goal.clauses-all-requires
clauses-all-requires c = omega (arith, c.requires.1.long)

pub loop-i-init : goal.loop-i-init
loop-i-init c = λ P from o a p. going p

pub entry-s-requires : goal.entry-s-requires
entry-s-requires c = (search rules, omega (arith, c.loop-i-test.true, c.clauses-all.ensures _ c.requires.1.long, c.requires.1.held.few), omega (arith, c.loop-i-test.true, c.clauses-all.ensures _ c.requires.1.long, c.requires.1.long))

pub word-requires : goal.word-requires
word-requires c = start-inside c.requires.1 c.loop-i.i _ (omega (arith, c.loop-i-test.true, c.clauses-all.ensures _ c.requires.1.long)) c.entry-s.ensures.0

pub returns-then-word-u : goal.returns-then-word-u
returns-then-word-u c = λ P from o a p. let l : c.loop-i.i < length P = omega (arith, c.loop-i-test.true, c.clauses-all.ensures _ o.long) in found (c.loop-i.invariant P from o a p) l (head_read o c.loop-i.i _ l c.entry-s.ensures.0 c.word.ensures ∙ c.if-word-u.true)

pub next-i-requires : goal.next-i-requires
next-i-requires c = (_, _, c.requires.1, omega (arith, c.loop-i-test.true, c.clauses-all.ensures _ c.requires.1.long))

pub loop-i-smaller : goal.loop-i-smaller
loop-i-smaller c = omega (arith, c.loop-i-test.true, (c.next-i.ensures _ _ c.requires.1 (omega (arith, c.loop-i-test.true, c.clauses-all.ensures _ c.requires.1.long))).low)

pub loop-i-preserved : goal.loop-i-preserved
loop-i-preserved c = λ P from o a p. let l : c.loop-i.i < length P = omega (arith, c.loop-i-test.true, c.clauses-all.ensures _ o.long) in going_on (c.loop-i.invariant P from o a p) l (λ e. c.if-word-u.false (inv (head_read o c.loop-i.i _ l c.entry-s.ensures.0 c.word.ensures) ∙ e)) (c.next-i.ensures _ P o l)

pub returns : goal.returns
returns c = λ P from o a p. let e = c.clauses-all.ensures _ o.long in none_found (c.loop-i.invariant P from o a p) a (omega (arith, e, c.loop-i-test.false)) _ e
