use mathlib.Core.Path.{refl}
use lib.ListN.{length}
use Rattle.answers.proofs.Clearing.{copied-check}
use Rattle.answers.proofs.check_copy.Goals as goal

pub returns : goal.returns
returns c = copied-check _ c.args.answer.now _ (length c.args.answer.now) _ c.fill.ensures refl c.check_cleared.ensures
