use borrow.Author.Rules.{rules}
use Rattle.storage.proofs.Ending.{ending-start, ending-next, ending-end}
use Rattle.storage.proofs.formula_end.Goals as goal

pub loop-terms-init : goal.loop-terms-init
loop-terms-init c = ending-start c.requires

pub loop-terms-preserved : goal.loop-terms-preserved
loop-terms-preserved c = search (rules, ending-next)

pub returns : goal.returns
returns c = search (rules, ending-end)
