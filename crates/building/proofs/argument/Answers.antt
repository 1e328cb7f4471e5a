use native.Mathlib.Omega.{arith}
use Rattle.building.proofs.Places.{depth-nodes, top-facts}
use Rattle.building.proofs.Arguments.{len_most, argued}
use Rattle.building.proofs.argument.Goals as goal

pub bump-requires : goal.bump-requires
bump-requires c = (omega (arith, depth-nodes _ _ c.requires.0.built.opened, c.requires.0.count, c.requires.0.built.opens_long, c.requires.0.deep), (top-facts _ _ c.requires.0.built c.requires.0.small c.requires.0.count (λ z. omega (arith, z, c.requires.0.deep))).0, omega (arith, c.requires.0.built.drafted.long), (top-facts _ _ c.requires.0.built c.requires.0.small c.requires.0.count (λ z. omega (arith, z, c.requires.0.deep))).1)

pub variable-requires : goal.variable-requires
variable-requires c = (omega (arith, c.bump.auto.out, c.requires.0.built.drafted.long, c.requires.0.built.drafted.low, len_most 255 c.requires.0.built c.requires.0.count), c.requires.1)

pub returns : goal.returns
returns c = argued _ _ _ _ _ _ _ _ c.bump.ensures c.variable.ensures
