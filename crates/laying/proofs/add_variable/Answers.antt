use Rattle.laying.proofs.Adding.{variables-added}
use Rattle.laying.proofs.add_variable.Goals as goal

pub lay-requires : goal.lay-requires
lay-requires c = search variables-added

pub returns : goal.returns
returns c = search variables-added
