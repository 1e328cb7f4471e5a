use Rattle.namelist.proofs.Walking.{shared}
use Rattle.namelist.proofs.shares.Goals as goal

pub returns-then-s-a : goal.returns-then-s-a
returns-then-s-a c = shared c.args.s.now c.args.a c.args.b _ _ _ c.if-s-a.true c.name_at.ensures c.name_at-then-s-a.ensures c.eq.ensures
