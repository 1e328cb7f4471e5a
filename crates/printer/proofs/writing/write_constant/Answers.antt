use Rattle.printer.proofs.Wrote.{wrote-constant}
use Rattle.printer.proofs.writing.write_constant.Goals as goal

pub returns : goal.returns
returns c = wrote-constant _ _ _ _ _ _ _ _ _ _ c.put_symbol-end.ensures c.end_term.ensures
