use Rattle.texts.proofs.Seeking.{seeking-start, seeking-here, seeking-next, seeking-less, seeking-end, seeking-low}
use borrow.Author.Rules.{rules}
use Rattle.texts.proofs.places.formula_place.Goals as goal

pub loop-at-init : goal.loop-at-init
loop-at-init c = (search seeking-start, search rules)

pub returns-then-is_here : goal.returns-then-is_here
returns-then-is_here c = (search seeking-here, search seeking-low)

pub loop-at-smaller : goal.loop-at-smaller
loop-at-smaller c = search seeking-less

pub loop-at-preserved : goal.loop-at-preserved
loop-at-preserved c = (search seeking-next, search rules)

pub returns : goal.returns
returns c = (search seeking-end, search seeking-low)
