use Rattle.laying.proofs.Holding.{bumping}
use Rattle.laying.proofs.nodes.bump.Goals as goal

pub returns-then-depth-eq0 : goal.returns-then-depth-eq0
returns-then-depth-eq0 c = search bumping

pub bounds-out-p : goal.bounds-out-p
bounds-out-p c = search bumping

pub bounds-out-p-2 : goal.bounds-out-p-2
bounds-out-p-2 c = search bumping

pub returns : goal.returns
returns c = search bumping
