use Rattle.namelist.proofs.Checking.{entry-rules}
use Rattle.namelist.proofs.entry_good.Goals as goal

pub returns-then-left-lt4 : goal.returns-then-left-lt4
returns-then-left-lt4 c = search entry-rules

pub returns-then-kind-lt2 : goal.returns-then-kind-lt2
returns-then-kind-lt2 c = search entry-rules

pub returns-then-kind-gt4 : goal.returns-then-kind-gt4
returns-then-kind-gt4 c = search entry-rules

pub returns-then-rank_at-floor : goal.returns-then-rank_at-floor
returns-then-rank_at-floor c = search entry-rules

pub returns-then-len-gt32 : goal.returns-then-len-gt32
returns-then-len-gt32 c = search entry-rules

pub returns-then-left-len : goal.returns-then-left-len
returns-then-left-len c = search entry-rules

pub returns : goal.returns
returns c = search entry-rules
