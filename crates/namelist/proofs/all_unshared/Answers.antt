use Rattle.namelist.proofs.Finding.{sweeping-begins, sweeping, sweeping-said}
use Rattle.namelist.proofs.all_unshared.Goals as goal

pub loop-at-init : goal.loop-at-init
loop-at-init c = search sweeping

pub unshared-requires : goal.unshared-requires
unshared-requires c = sweeping-begins _ _ c.loop-at.invariant c.loop-at-test.true

pub returns-then-not-unshared : goal.returns-then-not-unshared
returns-then-not-unshared c = λ l h. search sweeping-said

pub past-at-requires : goal.past-at-requires
past-at-requires c = record { at_in_bounds = search sweeping; at_in_bounds_2 = search sweeping }

pub loop-at-preserved : goal.loop-at-preserved
loop-at-preserved c = search sweeping

pub returns : goal.returns
returns c = λ l h. search sweeping-said
