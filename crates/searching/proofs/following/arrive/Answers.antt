use Rattle.searching.proofs.Arrives.{come-somewhere, come-entered}
use Rattle.searching.proofs.following.arrive.Goals as goal

pub look-requires : goal.look-requires
look-requires c = come-somewhere _ _ _ _ c.requires _ c.copy_words.ensures

pub returns : goal.returns
returns c = come-entered _ _ _ _ c.requires _ c.copy_words.ensures _ c.look.ensures
