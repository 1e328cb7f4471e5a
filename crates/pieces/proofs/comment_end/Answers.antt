use Rattle.grammar.specs.Front.{in_comment}
use Rattle.pieces.proofs.Runs.{ends-behind}
use Rattle.pieces.proofs.comment_end.Goals as goal

pub returns : goal.returns
returns c = ends-behind in_comment _ _ _ c.requires c.comment_length.ensures
