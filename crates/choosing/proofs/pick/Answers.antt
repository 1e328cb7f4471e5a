use Prim.Native.Nat.{◌<◌}
use native.Mathlib.Omega.{arith}
use mathlib.Core.Path.{refl, sym, ap, ◌∙◌}
use lib.ListN.{length}
use Rattle.search.specs.Next.{clause_at}
use Rattle.words.specs.Word.{arity_of}
use Rattle.picking.proofs.Picks.{formula-long, picked_none, picked-here, head-here, first-turn, later-turn, next-turn}
use Rattle.picking.proofs.Trials.{meets, fails, first_round, to-go, left_here, right-here, small, next-round, all-reached, matched}
use borrow.Author.Rules.{rules}
use Rattle.choosing.proofs.pick.Goals as goal

pub clauses-n-requires : goal.clauses-n-requires
clauses-n-requires c = omega (arith, c.requires.1.1.long)

pub word-u-requires : goal.word-u-requires
word-u-requires c = formula-long c.requires.0.1

pub find-i-requires : goal.find-i-requires
find-i-requires c = c.requires.1

pub clauses-init : goal.clauses-init
clauses-init c = first-turn c.word-u.ensures (λ P s. c.clauses-n.ensures _ s.long) c.requires.1.1 c.find-i.ensures

pub set_up-requires : goal.set_up-requires
set_up-requires c = (c.requires.0, (c.requires.1.0, c.requires.1.1, omega (arith, c.if-n-i.false, c.clauses-n.ensures _ c.requires.1.1.long)))

pub find_next-i-requires : goal.find_next-i-requires
find_next-i-requires c = (_, c.requires.1.1, omega (arith, c.if-n-i.false, c.clauses-n.ensures _ c.requires.1.1.long))

pub clauses-smaller-in_default : goal.clauses-smaller-in_default
clauses-smaller-in_default c = omega (arith, c.if-n-i.false, later-turn c.word-u.ensures (λ P s. c.clauses-n.ensures _ s.long) c.requires.1.1 c.clauses.invariant c.if-n-i.false c.find_next-i.ensures)

pub clauses-preserved-in_default : goal.clauses-preserved-in_default
clauses-preserved-in_default c = let l = c.clauses in next-turn c.word-u.ensures (λ P s. c.clauses-n.ensures _ s.long) c.requires.1.1 l.invariant c.if-n-i.false c.find_next-i.ensures (λ f P p s. let q : l.i < length P = omega (arith, c.if-n-i.false, c.clauses-n.ensures _ s.long) in (rw c.in_default.is at (c.set_up.ensures P s q).known) f (clause_at P l.i) _ p (head-here s l.i q))

pub loop-j-init : goal.loop-j-init
loop-j-init c = let l = c.clauses in (refl, c.if-n-i.false, l.invariant, λ P s. let q : l.i < length P = omega (arith, c.if-n-i.false, c.clauses-n.ensures _ s.long) in let laid = rw c.in-Some.is at (c.set_up.ensures P s q).known in first_round (clause_at P l.i) c.requires.0.1 (head-here s l.i q) laid.0 laid.1 _ (c.arity-k.ensures.0 ∙ ap arity_of c.word-u.ensures))

pub argue-requires : goal.argue-requires
argue-requires c = let l = c.loop-j in let r = l.invariant.3 c.requires.1.0 c.requires.1.1 in (_, _, r.short, r.reached, to-go r c.loop-j-test.true)

pub find_next-i-requires-then-not-argue : goal.find_next-i-requires-then-not-argue
find_next-i-requires-then-not-argue c = (_, c.requires.1.1, omega (arith, c.loop-j.invariant.1, c.clauses-n.ensures _ c.requires.1.1.long))

pub clauses-smaller-then-not-argue : goal.clauses-smaller-then-not-argue
clauses-smaller-then-not-argue c = omega (arith, c.loop-j.invariant.0, c.loop-j.invariant.1, later-turn c.word-u.ensures (λ P s. c.clauses-n.ensures _ s.long) c.requires.1.1 c.loop-j.invariant.2 c.loop-j.invariant.1 c.find_next-i-then-not-argue.ensures)

pub clauses-preserved-then-not-argue : goal.clauses-preserved-then-not-argue
clauses-preserved-then-not-argue c = let l = c.loop-j in next-turn c.word-u.ensures (λ P s. c.clauses-n.ensures _ s.long) c.requires.1.1 l.invariant.2 l.invariant.1 c.find_next-i-then-not-argue.ensures (λ f P p s. let r = l.invariant.3 P s in fails (clause_at P l.i) p (head-here s l.i (omega (arith, l.invariant.1, c.clauses-n.ensures _ s.long))) r.pair ((c.argue.ensures.0 _ _ r.reached (to-go r c.loop-j-test.true)).none c.if-not-argue.true))

pub cell-c-requires : goal.cell-c-requires
cell-c-requires c = let l = c.loop-j in let r = l.invariant.3 c.requires.1.0 c.requires.1.1 in (search rules, omega (arith, small r c.loop-j-test.true (search rules), left_here r c.loop-j-test.true))

pub cell-d-requires : goal.cell-d-requires
cell-d-requires c = let l = c.loop-j in let r = l.invariant.3 c.requires.1.0 c.requires.1.1 in (search rules, omega (arith, small r c.loop-j-test.true (search rules), right-here r c.loop-j-test.true))

pub loop-j-preserved : goal.loop-j-preserved
loop-j-preserved c = let l = c.loop-j in (l.invariant.0, l.invariant.1, l.invariant.2, λ P s. let r = l.invariant.3 P s in next-round r c.loop-j-test.true _ c.argue.ensures.1 _ _ _ c.if-not-argue.false (c.argue.ensures.0 _ _ r.reached (to-go r c.loop-j-test.true)) (c.cell-c.ensures.0 _ (left_here r c.loop-j-test.true)) (c.cell-d.ensures.0 _ (right-here r c.loop-j-test.true)))

pub conclude-requires : goal.conclude-requires
conclude-requires c = let l = c.loop-j in let r = l.invariant.3 c.requires.1.0 c.requires.1.1 in (_, _, _, _, r.short, r.reached)

pub find_next-i-requires-in-clauses : goal.find_next-i-requires-in-clauses
find_next-i-requires-in-clauses c = (_, c.requires.1.1, omega (arith, c.loop-j.invariant.1, c.clauses-n.ensures _ c.requires.1.1.long))

pub clauses-smaller : goal.clauses-smaller
clauses-smaller c = omega (arith, c.loop-j.invariant.0, c.loop-j.invariant.1, later-turn c.word-u.ensures (λ P s. c.clauses-n.ensures _ s.long) c.requires.1.1 c.loop-j.invariant.2 c.loop-j.invariant.1 c.find_next-i-in-clauses.ensures)

pub clauses-preserved : goal.clauses-preserved
clauses-preserved c = let l = c.loop-j in next-turn c.word-u.ensures (λ P s. c.clauses-n.ensures _ s.long) c.requires.1.1 l.invariant.2 l.invariant.1 c.find_next-i-in-clauses.ensures (λ f P p s. let r = l.invariant.3 P s in fails (clause_at P l.i) p (head-here s l.i (omega (arith, l.invariant.1, c.clauses-n.ensures _ s.long))) r.pair ((c.conclude.ensures _ _ _ _ r.reached (all-reached r c.loop-j-test.false)).none c.if-conclude.false))

pub returns-then-n-i : goal.returns-then-n-i
returns-then-n-i c = let l = c.clauses in λ f P p s. let e = c.clauses-n.ensures _ s.long in picked_none f P _ _ (omega (arith, l.invariant.after, l.invariant.within, c.if-n-i.true, e)) refl (λ j a b. l.invariant.passing f P p s j a (omega (arith, b, c.if-n-i.true, e)))

pub returns-then-conclude : goal.returns-then-conclude
returns-then-conclude c = let l = c.loop-j in λ f P p s. let q : l.i < length P = omega (arith, c.clauses-n.ensures _ s.long, l.invariant.1) in let r = l.invariant.3 P s in let g = c.conclude.ensures _ _ _ _ r.reached (all-reached r c.loop-j-test.false) in (picked-here f P _ l.i l.invariant.2.after q (l.invariant.2.passing f P p s) (meets (clause_at P l.i) p (head-here s l.i q) r.pair c.if-conclude.true g), q, matched r.pair c.if-conclude.true g)
