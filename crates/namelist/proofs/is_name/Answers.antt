use Rattle.namelist.proofs.Naming.{name-is}
use Rattle.namelist.proofs.is_name.Goals as goal

pub returns-then-small : goal.returns-then-small
returns-then-small c = name-is _ _ _ c.in-len1-up.len_at_least c.small.ensures c.if-small.true c.all_go_on.ensures
