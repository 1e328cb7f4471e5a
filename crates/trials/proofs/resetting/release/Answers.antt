use native.Mathlib.Omega.{arith}
use mathlib.Core.Path.{◌∙◌}
use Rattle.trials.proofs.Resets.{trail_long, free-again}
use borrow.Author.Rules.{rules}
use Rattle.trials.proofs.resetting.release.Goals as goal

pub undo-requires : goal.undo-requires
undo-requires c = (omega (arith, trail_long c.args.rows.now (search rules), c.requires.1.few), c.requires.1.trailed.inside)

pub clear-requires : goal.clear-requires
clear-requires c = (omega arith, omega (arith, c.undo.auto.cells, c.requires.0))

pub returns : goal.returns
returns c = free-again (c.undo.auto.cells ∙ c.requires.0) (λ v l. c.undo.ensures.undone c.requires.1.before 8192 c.requires.1.trailed v l ∙ c.requires.1.free v) c.clear.ensures
