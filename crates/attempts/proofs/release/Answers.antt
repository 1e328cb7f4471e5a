use Rattle.attempts.proofs.Undoing.{restored}
use Rattle.attempts.proofs.release.Goals as goal

pub returns : goal.returns
returns c = λ before u. restored u c.undo.auto.cells c.undo.ensures.free (c.undo.ensures.undone before c.args.base u.trailed) c.clear.ensures
