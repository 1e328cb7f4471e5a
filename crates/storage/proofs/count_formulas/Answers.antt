use native.Mathlib.Omega.{arith}
use mathlib.Core.Path.{◌∙◌}
use Rattle.storage.proofs.Loading.{goal-count}
use Rattle.storage.proofs.count_formulas.Goals as goal

pub number_at-requires : goal.number_at-requires
number_at-requires c = (goal-count _ (λ i. omega (arith, c.type_inv.query i)) c.requires).0

pub returns : goal.returns
returns c = c.from.ensures ∙ c.number_at.ensures ∙ (goal-count _ (λ i. omega (arith, c.type_inv.query i)) c.requires).1
