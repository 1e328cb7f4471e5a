use mathlib.Core.Path.{sym, ◌∙◌}
use borrow.Author.Rules.{rules}
use Rattle.words.specs.Columns.{column-at}
use Rattle.words.proofs.rows.cell.Goals as goal

pub returns : goal.returns
returns c = (λ n h. c.from.ensures ∙ sym (column-at _ n _ _ h c.requires.1), search rules)
