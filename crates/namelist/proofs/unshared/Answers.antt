use Rattle.namelist.proofs.Walking.{seeking, seeking-said}
use Rattle.namelist.proofs.unshared.Goals as goal

pub past-i-requires : goal.past-i-requires
past-i-requires c = record { at_in_bounds = search seeking; at_in_bounds_2 = search seeking }

pub loop-i-init : goal.loop-i-init
loop-i-init c = search seeking

pub shares-requires : goal.shares-requires
shares-requires c = record { a_in_bounds = (search seeking, search seeking); b_in_bounds = (search seeking, search seeking) }

pub returns-then-shares : goal.returns-then-shares
returns-then-shares c = λ x l h. search seeking-said

pub past-i-requires-in-loop-i : goal.past-i-requires-in-loop-i
past-i-requires-in-loop-i c = record { at_in_bounds = search seeking; at_in_bounds_2 = search seeking }

pub loop-i-preserved : goal.loop-i-preserved
loop-i-preserved c = search seeking

pub returns : goal.returns
returns c = λ x l h. search seeking-said
