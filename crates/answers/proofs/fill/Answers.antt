use Rattle.answers.proofs.Clearing.{copied}
use Rattle.answers.proofs.fill.Goals as goal

pub loop-i-init : goal.loop-i-init
loop-i-init c = search copied

pub loop-i-preserved : goal.loop-i-preserved
loop-i-preserved c = search copied

pub returns : goal.returns
returns c = search copied
