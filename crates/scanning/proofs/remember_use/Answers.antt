use Rattle.scanning.proofs.Records.{use_kept, use-other}
use Rattle.scanning.proofs.remember_use.Goals as goal

pub returns-then-not-same : goal.returns-then-not-same
returns-then-not-same c = search use-other

pub returns : goal.returns
returns c = search use_kept
