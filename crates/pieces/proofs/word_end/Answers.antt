use Rattle.grammar.specs.Byte.{goes_on}
use Rattle.pieces.proofs.Runs.{ends-behind}
use Rattle.pieces.proofs.word_end.Goals as goal

pub returns : goal.returns
returns c = ends-behind goes_on _ _ _ c.requires c.word_length.ensures
