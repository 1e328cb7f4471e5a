use Rattle.searching.proofs.Searches.{start-somewhere, start-turn}
use Rattle.searching.proofs.first_look.Goals as goal

pub look-requires : goal.look-requires
look-requires c = start-somewhere c.args.goal.now _ _ _ _ c.requires.0 _ c.new.ensures c.requires.1 c.requires.2

pub returns : goal.returns
returns c = λ P q h. start-turn c.args.goal.now _ _ _ _ c.requires.0 _ c.new.ensures _ c.look.ensures P q _ h
