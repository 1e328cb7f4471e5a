use Rattle.namelist.proofs.Checking.{checking-rules}
use Rattle.namelist.proofs.entries_good.Goals as goal

pub loop-at-init : goal.loop-at-init
loop-at-init c = search checking-rules

pub returns-then-not-entry_good : goal.returns-then-not-entry_good
returns-then-not-entry_good c = search checking-rules

pub rank_at-floor-requires : goal.rank_at-floor-requires
rank_at-floor-requires c = search checking-rules

pub past-at-requires : goal.past-at-requires
past-at-requires c = record { at_in_bounds = search checking-rules; at_in_bounds_2 = search checking-rules }

pub loop-at-preserved : goal.loop-at-preserved
loop-at-preserved c = search checking-rules

pub returns : goal.returns
returns c = search checking-rules
