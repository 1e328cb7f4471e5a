use Rattle.drafts.proofs.Pushing.{fourth}
use Rattle.drafts.proofs.writing.put4.Goals as goal

pub returns : goal.returns
returns c = fourth _ _ _ _ _ _ _ c.requires.0 c.put3.ensures
