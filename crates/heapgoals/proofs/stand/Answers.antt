use mathlib.Core.Path.{refl}
use Rattle.heapgoals.proofs.Stands.{row-valids, row_small, stood}
use Rattle.heapgoals.proofs.stand.Goals as goal

pub variables_in-variables-requires : goal.variables_in-variables-requires
variables_in-variables-requires c = (row-valids c.requires.3, row_small c.requires.3)

pub returns : goal.returns
returns c = record { held = (λ f g a y words cells levels cl. stood y cl _ c.variables_in-variables.ensures refl); top = refl }
