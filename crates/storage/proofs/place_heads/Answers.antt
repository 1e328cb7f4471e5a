use Rattle.storage.proofs.Placing.{placing-start, head-there, placing}
use Rattle.storage.proofs.place_heads.Goals as goal

pub loop-k-init : goal.loop-k-init
loop-k-init c = placing-start c.requires.stored c.requires.clauses_in_bounds

pub bounds-starts-k : goal.bounds-starts-k
bounds-starts-k c = search placing

pub formula_end-requires : goal.formula_end-requires
formula_end-requires c = head-there c.loop-k.invariant c.loop-k-test.true c.from.ensures

pub overflow_cast-heads : goal.overflow_cast-heads
overflow_cast-heads c = search placing

pub bounds-heads-k : goal.bounds-heads-k
bounds-heads-k c = search placing

pub loop-k-preserved : goal.loop-k-preserved
loop-k-preserved c = search placing

pub returns : goal.returns
returns c = search placing
