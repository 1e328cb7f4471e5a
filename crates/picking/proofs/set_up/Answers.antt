use native.Mathlib.Omega.{arith}
use Rattle.search.specs.Next.{clause_at}
use Rattle.picking.proofs.Picks.{placed_at, head-placed, on_shelf, told, ready}
use borrow.Author.Rules.{rules}
use Rattle.picking.proofs.set_up.Goals as goal

pub entry-s-requires : goal.entry-s-requires
entry-s-requires c = (search rules, omega (arith, c.requires.1.2, c.requires.1.1.held.few), omega (arith, c.requires.1.2, c.requires.1.1.long))

pub entry-e-requires : goal.entry-e-requires
entry-e-requires c = (search rules, omega (arith, c.requires.1.2, c.requires.1.1.held.few), omega (arith, c.requires.1.2, c.requires.1.1.long))

pub slice_bounds-told_apart-count : goal.slice_bounds-told_apart-count
slice_bounds-told_apart-count c = omega (arith, (placed_at c.requires.1.1 _ _ _ c.requires.1.2 c.entry-s.ensures.0 c.entry-e.ensures.0).begins)

pub slice_bounds-told_apart-start : goal.slice_bounds-told_apart-start
slice_bounds-told_apart-start c = omega (arith, (placed_at c.requires.1.1 _ _ _ c.requires.1.2 c.entry-s.ensures.0 c.entry-e.ensures.0).begins)

pub slice_bounds-told_apart-end : goal.slice_bounds-told_apart-end
slice_bounds-told_apart-end c = let d = placed_at c.requires.1.1 _ _ _ c.requires.1.2 c.entry-s.ensures.0 c.entry-e.ensures.0 in omega (arith, d.ends, d.within)

pub told_apart-requires : goal.told_apart-requires
told_apart-requires c = (c.requires.0, (clause_at c.requires.1.0 c.args.i, _, head-placed c.requires.1.1 _ _ _ c.requires.1.2 c.entry-s.ensures.0 c.entry-e.ensures.0))

pub returns-then-told_apart : goal.returns-then-told_apart
returns-then-told_apart c = λ P o l. on_shelf o _ _ _ l c.entry-s.ensures.0 c.entry-e.ensures.0 (told c.told_apart.ensures c.if-told_apart.true)

pub slice_bounds-lay-count : goal.slice_bounds-lay-count
slice_bounds-lay-count c = omega (arith, (placed_at c.requires.1.1 _ _ _ c.requires.1.2 c.entry-s.ensures.0 c.entry-e.ensures.0).begins)

pub slice_bounds-lay-start : goal.slice_bounds-lay-start
slice_bounds-lay-start c = omega (arith, (placed_at c.requires.1.1 _ _ _ c.requires.1.2 c.entry-s.ensures.0 c.entry-e.ensures.0).begins)

pub slice_bounds-lay-end : goal.slice_bounds-lay-end
slice_bounds-lay-end c = let d = placed_at c.requires.1.1 _ _ _ c.requires.1.2 c.entry-s.ensures.0 c.entry-e.ensures.0 in omega (arith, d.ends, d.within)

pub lay-requires : goal.lay-requires
lay-requires c = (c.requires.0, (clause_at c.requires.1.0 c.args.i, _, head-placed c.requires.1.1 _ _ _ c.requires.1.2 c.entry-s.ensures.0 c.entry-e.ensures.0))

pub returns : goal.returns
returns c = λ P o l. on_shelf o _ _ _ l c.entry-s.ensures.0 c.entry-e.ensures.0 (ready c.told_apart.ensures c.if-told_apart.false c.lay.ensures)
