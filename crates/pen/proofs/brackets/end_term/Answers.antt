use mathlib.Core.Path.{refl}
use Rattle.pen.proofs.Stacks.{ended}
use Rattle.pen.proofs.brackets.end_term.Goals as goal

pub returns : goal.returns
returns c = ended _ _ _ _ _ _ _ _ _ c.begin.ensures.0 c.begin.ensures.1 c.close-closed.ensures c.put_comma-end.ensures refl
