use Rattle.halfway.proofs.Changes.{end-fine, end-early}
use Rattle.turns.proofs.end.Goals as goal

pub returns-then-may_end : goal.returns-then-may_end
returns-then-may_end c = end-fine c.args.c c.args.at _ _ c.deep.ensures c.may_end.ensures c.if-may_end.true

pub returns : goal.returns
returns c = end-early c.args.c c.args.at _ _ c.deep.ensures c.may_end.ensures c.if-may_end.false c.unexpected.ensures
