use Prim.Native.Nat.{suc}
use native.Mathlib.Omega.{arith}
use mathlib.Core.Path.{sym as inv, ◌∙◌}
use Rattle.search.proofs.FurthestLaws.{best_none}
use Rattle.picking.proofs.Picks.{formula-long, found_after}
use Rattle.weighing.proofs.Weighs.{foremost-more, foremost-found, foremost-all}
use Rattle.weighing.proofs.furthest.Goals as goal

pub clauses-n-requires : goal.clauses-n-requires
clauses-n-requires c = omega (arith, c.requires.1.1.long)

pub word-u-requires : goal.word-u-requires
word-u-requires c = formula-long c.requires.0.1

pub find-i-requires : goal.find-i-requires
find-i-requires c = (_, c.requires.1.1, omega arith)

pub loop-i-init : goal.loop-i-init
loop-i-init c = (omega (arith, (c.find-i.ensures _ c.requires.1.1).high, c.clauses-n.ensures _ c.requires.1.1.long), (λ P b. c.clauses-n.ensures _ b.long), foremost-found 0 _ _ c.word-u.ensures c.find-i.ensures (λ f P h b. best_none), (λ P b. (c.find-i.ensures P b).here), tt)

pub weigh-best-requires : goal.weigh-best-requires
weigh-best-requires c = record { held = (c.requires.0, (_, c.requires.1.1, omega (arith, c.loop-i-test.true, c.loop-i.invariant.1 _ c.requires.1.1))); fails = c.loop-i.invariant.4 }

pub find_next-i-requires : goal.find_next-i-requires
find_next-i-requires c = (_, c.requires.1.1, omega (arith, c.loop-i-test.true, c.loop-i.invariant.1 _ c.requires.1.1))

pub loop-i-smaller : goal.loop-i-smaller
loop-i-smaller c = omega (arith, c.loop-i-test.true, (found_after c.loop-i.invariant.1 c.loop-i-test.true c.loop-i.invariant.3 c.find_next-i.ensures _ c.requires.1.1).low)

pub loop-i-preserved : goal.loop-i-preserved
loop-i-preserved c = let x = found_after c.loop-i.invariant.1 c.loop-i-test.true c.loop-i.invariant.3 c.find_next-i.ensures in (omega (arith, (x _ c.requires.1.1).high, c.loop-i.invariant.1 _ c.requires.1.1), c.loop-i.invariant.1, foremost-found (suc c.loop-i.i) _ _ c.word-u.ensures x (foremost-more c.loop-i.i _ _ (λ P b. omega (arith, c.loop-i-test.true, c.loop-i.invariant.1 P b)) c.loop-i.invariant.2 c.weigh-best.ensures.weighed), (λ P b. (x P b).here), c.weigh-best.ensures.fails)

pub returns : goal.returns
returns c = record { figures = λ f P h b. foremost-all c.loop-i.i _ c.loop-i.invariant.2 f P h b (omega (arith, c.loop-i-test.false, c.loop-i.invariant.0, c.loop-i.invariant.1 P b)); fails = c.loop-i.invariant.4 }
