use Rattle.pen.proofs.Stacks.{closing-step}
use Rattle.pen.proofs.brackets.close.Goals as goal

pub loop-i-preserved : goal.loop-i-preserved
loop-i-preserved c = search closing-step
