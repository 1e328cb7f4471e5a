use Rattle.printer.proofs.Walks.{walking}
use Rattle.printer.proofs.walk.Goals as goal

pub loop-i-init : goal.loop-i-init
loop-i-init c = search walking

pub record_at-item-requires : goal.record_at-item-requires
record_at-item-requires c = search walking

pub next_at-i-requires : goal.next_at-i-requires
next_at-i-requires c = search walking

pub loop-i-preserved : goal.loop-i-preserved
loop-i-preserved c = search walking

pub shape_of-area : goal.shape_of-area
shape_of-area c = search walking

pub returns : goal.returns
returns c = λ l h. search walking
