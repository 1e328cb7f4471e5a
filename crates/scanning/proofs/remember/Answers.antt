use Rattle.scanning.proofs.Records.{plain, formula-low, formula_as}
use borrow.Author.Rules.{rules}
use Rattle.scanning.proofs.remember.Goals as goal

pub remember_use-requires : goal.remember_use-requires
remember_use-requires c = (search rules, search rules, search formula-low)

pub returns-in_default : goal.returns-in_default
returns-in_default c = plain _ _ c.in_default.not-Formula

pub returns-in-Formula : goal.returns-in-Formula
returns-in-Formula c = search formula_as
