use native.Mathlib.Omega.{arith}
use Rattle.stages.proofs.Holding.{depth-inside, formulas-low, top-low}
use Rattle.stages.proofs.naming.with_argument.Goals as goal

pub raise-formulas-requires : goal.raise-formulas-requires
raise-formulas-requires c = (depth-inside c.requires.0.held, omega (arith, formulas-low c.requires.0.held), λ z. omega (arith, top-low c.requires.0.held z))

pub returns : goal.returns
returns c = (cc c.raise-formulas.ensures.1, c.raise-formulas.ensures.0)
