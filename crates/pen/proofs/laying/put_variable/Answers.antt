use Rattle.pen.proofs.Layings.{variable-laid}
use Rattle.pen.proofs.laying.put_variable.Goals as goal

pub returns : goal.returns
returns c = search variable-laid
