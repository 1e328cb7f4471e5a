use Rattle.pen.proofs.Layings.{laying-next}
use Rattle.pen.proofs.laying.put_all.Goals as goal

pub loop-b-preserved : goal.loop-b-preserved
loop-b-preserved c = search laying-next
