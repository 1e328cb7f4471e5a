use Rattle.stages.proofs.Holding.{settle-alone}
use Rattle.stages.proofs.signs.settle.Goals as goal

pub returns-in-Named : goal.returns-in-Named
returns-in-Named c = settle-alone _ _ c.with_argument.ensures.0 c.with_argument.ensures.1 c.in-Named.is
