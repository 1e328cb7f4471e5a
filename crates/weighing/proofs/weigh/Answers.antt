use Prim.Native.Nat.{◌<◌, ◌≤◌}
use Rattle.weighing.specs.Stuck.{figured}
use native.Mathlib.Omega.{arith}
use Rattle.search.specs.Next.{clause_at}
use Rattle.picking.proofs.Picks.{formula-long, placed_at, head-placed}
use Rattle.weighing.proofs.Weighs.{one-predicate, weighed-other, weighed_better, weighed_worse}
use Rattle.weighing.proofs.weigh.Goals as goal

pub word-p-requires : goal.word-p-requires
word-p-requires c = formula-long c.requires.held.0.1

pub word-q-requires : goal.word-q-requires
word-q-requires c = let d = placed_at c.requires.held.1.1 c.args.i _ _ c.requires.held.1.2 c.entry-s.ensures.0 c.entry-e.ensures.0 in omega (arith, d.begins, d.ends, d.within)

pub slice_bounds-failing-count : goal.slice_bounds-failing-count
slice_bounds-failing-count c = let d = placed_at c.requires.held.1.1 c.args.i _ _ c.requires.held.1.2 c.entry-s.ensures.0 c.entry-e.ensures.0 in omega (arith, d.begins)

pub slice_bounds-failing-start : goal.slice_bounds-failing-start
slice_bounds-failing-start c = let d = placed_at c.requires.held.1.1 c.args.i _ _ c.requires.held.1.2 c.entry-s.ensures.0 c.entry-e.ensures.0 in omega (arith, d.begins)

pub slice_bounds-failing-end : goal.slice_bounds-failing-end
slice_bounds-failing-end c = let d = placed_at c.requires.held.1.1 c.args.i _ _ c.requires.held.1.2 c.entry-s.ensures.0 c.entry-e.ensures.0 in omega (arith, d.ends, d.within)

pub failing-k-requires : goal.failing-k-requires
failing-k-requires c = (c.requires.held.0, (clause_at c.requires.held.1.0 c.args.i, _, head-placed c.requires.held.1.1 c.args.i _ _ c.requires.held.1.2 c.entry-s.ensures.0 c.entry-e.ensures.0), one-predicate c.args.i _ _ c.entry-s.ensures.0 c.entry-e.ensures.0 _ _ c.word-q.ensures c.word-p.ensures c.requires.held.0.0 c.requires.held.1.0 c.requires.held.0.1 c.requires.held.1.1 c.requires.held.1.2 c.if-q-p.true)

pub returns-then-far-k : goal.returns-then-far-k
returns-then-far-k c = record { weighed = λ f P h b l. weighed_better c.args.i _ _ c.entry-s.ensures.0 c.entry-e.ensures.0 _ _ c.word-q.ensures c.word-p.ensures f P h b l _ _ (c.failing-k.ensures f (clause_at P c.args.i) _ h (head-placed b c.args.i _ _ l c.entry-s.ensures.0 c.entry-e.ensures.0) (one-predicate c.args.i _ _ c.entry-s.ensures.0 c.entry-e.ensures.0 _ _ c.word-q.ensures c.word-p.ensures f P h b l c.if-q-p.true)) (let e : (figured c.args.best).argument < c.failing-k.result = omega (arith, c.reached-far.ensures, c.if-far-k.true) in e); fails = omega (arith, c.if-far-k.true) }

pub returns-then-q-p : goal.returns-then-q-p
returns-then-q-p c = record { weighed = λ f P h b l. weighed_worse c.args.i _ _ c.entry-s.ensures.0 c.entry-e.ensures.0 _ _ c.word-q.ensures c.word-p.ensures f P h b l _ _ (c.failing-k.ensures f (clause_at P c.args.i) _ h (head-placed b c.args.i _ _ l c.entry-s.ensures.0 c.entry-e.ensures.0) (one-predicate c.args.i _ _ c.entry-s.ensures.0 c.entry-e.ensures.0 _ _ c.word-q.ensures c.word-p.ensures f P h b l c.if-q-p.true)) (let e : c.failing-k.result ≤ (figured c.args.best).argument = omega (arith, c.reached-far.ensures, c.if-far-k.false) in e); fails = c.requires.fails }

pub returns : goal.returns
returns c = record { weighed = λ f P h b l. weighed-other c.args.i _ _ c.entry-s.ensures.0 c.entry-e.ensures.0 _ _ c.word-q.ensures c.word-p.ensures f P h b l _ c.if-q-p.false; fails = c.requires.fails }
