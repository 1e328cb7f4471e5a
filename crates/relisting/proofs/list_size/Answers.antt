use Rattle.relisting.proofs.Parts.{size-said}
use mathlib.Core.Path.{refl}
use native.Mathlib.Omega.{arith}
use Rattle.relisting.proofs.list_size.Goals as goal

pub returns : goal.returns
returns c = (λ text own g h. size-said _ text _ (λ i. omega (arith, c.type_inv.names i)) _ g own h _ _ _ _ c.measure-constants.ensures.0 c.measure-compounds.ensures.0 c.measure-predicates.ensures.0 refl, omega (arith, c.measure-constants.ensures.1, c.measure-compounds.ensures.1, c.measure-predicates.ensures.1, c.requires.1, c.requires.0.constants, c.requires.0.compounds, c.requires.0.predicates))
