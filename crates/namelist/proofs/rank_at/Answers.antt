use Rattle.namelist.specs.Bytes.{rank}
use borrow.Author.Rules.{rules}
use Rattle.namelist.proofs.rank_at.Goals as goal

pub returns : goal.returns
unfolding rank
returns c = search rules
