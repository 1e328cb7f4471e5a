use mathlib.Core.Path.{refl}
use Rattle.printer.proofs.Wrote.{wrote-compound}
use Rattle.printer.proofs.writing.write_compound.Goals as goal

pub returns : goal.returns
returns c = wrote-compound _ _ _ _ _ _ _ _ _ _ _ _ _ _ c.put_symbol-name.ensures c.put-end.ensures c.begin.ensures.0 c.deepen-top.ensures.0 c.deepen-top.ensures.1 refl
