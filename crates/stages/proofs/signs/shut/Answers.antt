use native.Mathlib.Omega.{arith}
use Rattle.stages.proofs.Holding.{depth-inside, formulas-low, below-low}
use Rattle.stages.proofs.signs.shut.Goals as goal

pub raise-formulas-requires : goal.raise-formulas-requires
raise-formulas-requires c = (omega (arith, depth-inside c.requires.0.held), omega (arith, formulas-low c.requires.0.held), λ z. omega (arith, below-low c.requires.0.held z))

pub returns : goal.returns
returns c = (cc c.raise-formulas.ensures.1, c.raise-formulas.ensures.0)
