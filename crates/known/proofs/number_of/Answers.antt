use Rattle.known.proofs.Along.{calls, calls-said}
use Rattle.known.proofs.number_of.Goals as goal

pub loop-at-init : goal.loop-at-init
loop-at-init c = search calls

pub is_called-requires : goal.is_called-requires
is_called-requires c = (search calls, search calls)

pub number-requires : goal.number-requires
number-requires c = search calls

pub returns-then-is_called-clause-is : goal.returns-then-is_called-clause-is
returns-then-is_called-clause-is c = λ l k h e. search calls-said

pub past-at-requires : goal.past-at-requires
past-at-requires c = (search calls, search calls)

pub loop-at-preserved : goal.loop-at-preserved
loop-at-preserved c = search calls

pub returns-clause-is : goal.returns-clause-is
returns-clause-is c = λ l k h e. search calls-said
