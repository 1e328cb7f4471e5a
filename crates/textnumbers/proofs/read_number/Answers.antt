use Rattle.textnumbers.proofs.Sums.{of-read, of_unread}
use Rattle.textnumbers.proofs.read_number.Goals as goal

pub returns-then-r-eq0 : goal.returns-then-r-eq0
returns-then-r-eq0 c = of-read _ _ c.if-r-eq0.true c.pack.ensures

pub returns : goal.returns
returns c = of_unread _ _ c.if-r-eq0.false c.pack-2.ensures
