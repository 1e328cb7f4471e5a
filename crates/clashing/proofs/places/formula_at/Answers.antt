use Rattle.clashing.proofs.Seeking.{seeking}
use borrow.Author.Rules.{rules}
use Rattle.clashing.proofs.places.formula_at.Goals as goal

pub loop-at-init : goal.loop-at-init
loop-at-init c = (search seeking, search rules)

pub returns-then-is_here : goal.returns-then-is_here
returns-then-is_here c = (search seeking, search seeking)

pub loop-at-smaller : goal.loop-at-smaller
loop-at-smaller c = search seeking

pub loop-at-preserved : goal.loop-at-preserved
loop-at-preserved c = (search seeking, search rules)

pub returns : goal.returns
returns c = (search seeking, search seeking)
