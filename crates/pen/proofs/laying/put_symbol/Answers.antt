use Rattle.pen.proofs.Layings.{symbol-laid, symbol-none}
use Rattle.pen.proofs.laying.put_symbol.Goals as goal

pub returns-in-Some : goal.returns-in-Some
returns-in-Some c = symbol-laid _ _ _ _ _ _ _ _ _ c.in-Some.is c.find.ensures c.put_all.ensures

pub returns-in-None : goal.returns-in-None
returns-in-None c = symbol-none _ _ _ _ _ _ c.in-None.is c.find.ensures
