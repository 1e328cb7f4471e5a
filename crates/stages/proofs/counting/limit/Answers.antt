use Rattle.stages.proofs.Holding.{depth-inside}
use Rattle.stages.proofs.counting.limit.Goals as goal

pub full-requires : goal.full-requires
full-requires c = depth-inside c.requires.held
