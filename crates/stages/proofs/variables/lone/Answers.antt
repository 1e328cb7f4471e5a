use Rattle.std.proofs.Common.{sym, ◌∙◌}
use borrow.Author.Tests.{ne_eqb}
use Rattle.nametable.specs.Table.{word}
use Rattle.stages.proofs.Kept.{lone-other, word-long}
use Rattle.stages.proofs.variables.lone.Goals as goal

pub returns-else-len-eq1 : goal.returns-else-len-eq1
returns-else-len-eq1 c = ne_eqb _ _ c.if-len-eq1.false ∙ lone-other (word c.args.text.now c.args.at c.args.len) (λ e. c.if-len-eq1.false (sym (word-long c.args.text.now c.args.at c.args.len c.requires) ∙ e))
