use Rattle.texts.proofs.Finishing.{long-is, end-start, end-inside, stop-inside, came-finished}
use borrow.Author.Rules.{rules}
use Rattle.texts.proofs.finish.Goals as goal

pub returns-then-b-gt32769 : goal.returns-then-b-gt32769
returns-then-b-gt32769 c = long-is _ _ _ _ _ c.requires _ _ _ c.if-b-gt32769.true c.refused.ensures

pub overflow_sub-end : goal.overflow_sub-end
overflow_sub-end c = let z = end-start _ _ _ _ _ c.requires c.if-b-gt32769.false in search rules

pub bounds-out-end : goal.bounds-out-end
bounds-out-end c = let z = end-inside _ _ _ _ _ c.requires c.if-b-gt32769.false in search rules

pub slice_bounds-judge-end : goal.slice_bounds-judge-end
slice_bounds-judge-end c = stop-inside _ _ _ _ _ c.requires c.if-b-gt32769.false

pub judge-requires : goal.judge-requires
judge-requires c = came-finished _ _ _ _ _ c.requires c.if-b-gt32769.false
