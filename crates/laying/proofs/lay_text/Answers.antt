use Rattle.laying.proofs.Going.{blank-is, going}
use Rattle.laying.proofs.lay_text.Goals as goal

pub loop-at-init : goal.loop-at-init
loop-at-init c = search (going, blank-is)

pub add-d-requires : goal.add-d-requires
add-d-requires c = search going

pub loop-at-smaller : goal.loop-at-smaller
loop-at-smaller c = search going

pub loop-at-preserved : goal.loop-at-preserved
loop-at-preserved c = search going

pub returns : goal.returns
returns c = search going
