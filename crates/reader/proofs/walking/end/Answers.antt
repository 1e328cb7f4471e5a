use mathlib.Core.Path.{sym, ap}
use Rattle.stages.specs.declared.Mode.{Mode}
use Rattle.reader.specs.Walking.{ends}
use Rattle.reader.proofs.walking.end.Goals as goal

pub returns-in-Between : goal.returns-in-Between
returns-in-Between c = sym (ap (λ (m : Mode). ends m c.args.b c.args.at) c.in-Between.is)
