use Rattle.heap.specs.LoneLaws.{lone-symbol, lone_leaf}
use Rattle.heap.proofs.walking.lone.Goals as goal

pub returns-then-u-ge-SYMBOL : goal.returns-then-u-ge-SYMBOL
returns-then-u-ge-SYMBOL c = lone-symbol c.requires.0 c.word-u.ensures c.if-u-ge-SYMBOL.true

pub returns : goal.returns
returns c = lone_leaf c.requires.0 c.word-u.ensures c.if-u-ge-SYMBOL.false c.follow.ensures c.word-x.ensures c.arity.ensures.0 c.if-arity-gt0.false
