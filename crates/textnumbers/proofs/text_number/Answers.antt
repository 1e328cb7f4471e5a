use Rattle.textnumbers.proofs.Sums.{of-printed, of-refused}
use Rattle.textnumbers.proofs.text_number.Goals as goal

pub returns-then-p-eq0 : goal.returns-then-p-eq0
returns-then-p-eq0 c = of-printed _ _ c.if-p-eq0.true c.pack.ensures

pub returns : goal.returns
returns c = of-refused _ _ c.if-p-eq0.false c.pack-2.ensures
