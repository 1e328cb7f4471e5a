use Rattle.printer.proofs.Walks.{is-other, naming-items}
use Rattle.printer.proofs.naming.is_named.Goals as goal

pub returns-in-Constant : goal.returns-in-Constant
returns-in-Constant c = λ l h. search naming-items

pub returns-in-Compound : goal.returns-in-Compound
returns-in-Compound c = λ l h. search naming-items

pub returns-in-Formula : goal.returns-in-Formula
returns-in-Formula c = λ l h. search naming-items

pub returns-in_default : goal.returns-in_default
returns-in_default c = λ l h. is-other _ c.in_default.not-Constant c.in_default.not-Compound c.in_default.not-Formula l
