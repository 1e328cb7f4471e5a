use Rattle.std.proofs.Common.{◌+◌, ◌∙◌, get_or, arith}
use borrow.Author.Tests.{ne_eqb}
use Rattle.nametable.specs.Table.{word}
use Rattle.stages.proofs.Kept.{other-long, word-long}
use Rattle.stages.proofs.variables.is_variable.Goals as goal

pub returns-else-get-len : goal.returns-else-get-len
returns-else-get-len c = ne_eqb _ _ c.if-get-len.false ∙ other-long (word c.args.text.now c.args.at c.args.len) (word c.args.text.now (get_or c.args.vars.now c.args.i 0) (get_or c.args.vars.now (64 + c.args.i) 0 + 1)) c.args.len (get_or c.args.vars.now (64 + c.args.i) 0 + 1) (word-long c.args.text.now c.args.at c.args.len c.requires.1) (word-long c.args.text.now (get_or c.args.vars.now c.args.i 0) (get_or c.args.vars.now (64 + c.args.i) 0 + 1) c.requires.2) (λ e. c.if-get-len.false (omega (arith, c.get.ensures.0, e)))
