use Rattle.std.proofs.Common.{ne_eqb}
use Rattle.laying.proofs.Seeking.{wordly}
use Rattle.laying.proofs.owned.is_word.Goals as goal

pub returns-else-get-len : goal.returns-else-get-len
returns-else-get-len c = rw (ne_eqb _ _ c.if-get-len.false) (search wordly)
