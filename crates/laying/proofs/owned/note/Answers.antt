use Rattle.laying.proofs.Noting.{noting}
use Rattle.laying.proofs.owned.note.Goals as goal

pub returns-then-n-given : goal.returns-then-n-given
returns-then-n-given c = search noting

pub returns : goal.returns
returns c = search noting
