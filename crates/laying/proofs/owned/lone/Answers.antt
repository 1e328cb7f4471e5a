use Rattle.std.proofs.Common.{ne_eqb}
use Rattle.laying.proofs.Seeking.{lone-no}
use Rattle.laying.proofs.owned.lone.Goals as goal

pub returns-else-len-eq1 : goal.returns-else-len-eq1
returns-else-len-eq1 c = rw (ne_eqb _ _ c.if-len-eq1.false) (lone-no _ _ _ c.requires c.if-len-eq1.false)
