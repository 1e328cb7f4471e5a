use Rattle.pen.proofs.Stacks.{comma-here}
use Rattle.pen.proofs.brackets.put_comma.Goals as goal

pub returns-then-top-stack : goal.returns-then-top-stack
returns-then-top-stack c = search comma-here
