use Rattle.relisting.proofs.Putting.{measuring}
use borrow.Author.Rules.{rules}
use Rattle.relisting.proofs.measure.Goals as goal

pub loop-i-init : goal.loop-i-init
loop-i-init c = (search measuring, search rules, search rules, search rules)

pub loop-i-preserved : goal.loop-i-preserved
loop-i-preserved c = (search measuring, search rules, search rules, search rules)

pub returns : goal.returns
returns c = (λ text names a first o. search measuring, search measuring)
