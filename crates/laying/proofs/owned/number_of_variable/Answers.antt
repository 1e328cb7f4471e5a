use native.Mathlib.Omega.{arith}
use Rattle.laying.specs.declared.Kind.TheVariants.{Variable}
use Rattle.laying.proofs.Seeking.{variabled, numbering-words}
use Rattle.laying.proofs.owned.number_of_variable.Goals as goal

pub returns-then-lone : goal.returns-then-lone
returns-then-lone c = search variabled

pub find-requires : goal.find-requires
find-requires c = (numbering-words _ _ _ c.requires.0 Variable, c.requires.0.kept.long, omega (arith, c.requires.0.kept.few Variable), c.requires.1)

pub returns : goal.returns
returns c = search variabled
