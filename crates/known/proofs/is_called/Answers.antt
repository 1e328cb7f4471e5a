use Rattle.known.proofs.Comparing.{called-said}
use Rattle.known.proofs.is_called.Goals as goal

pub returns-then-byte-kind : goal.returns-then-byte-kind
returns-then-byte-kind c = called-said _ _ _ _ _ _ _ c.byte.ensures.0 c.if-byte-kind.true c.past.ensures c.eq.ensures
