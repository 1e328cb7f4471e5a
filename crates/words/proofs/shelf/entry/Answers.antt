use mathlib.Core.Path.{sym, ◌∙◌}
use Rattle.words.specs.Columns.{every-at}
use Rattle.words.proofs.shelf.entry.Goals as goal

pub returns : goal.returns
returns c = ((λ n h. c.get.ensures.0 ∙ sym (every-at 4 _ n _ _ h)), c.get.ensures.1)
