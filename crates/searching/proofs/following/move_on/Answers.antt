use Rattle.searching.proofs.Moves.{keep-room, moved-arriving, moved-turn}
use Rattle.searching.proofs.following.move_on.Goals as goal

pub keep-kept-requires : goal.keep-kept-requires
keep-kept-requires c = keep-room _ _ _ _ _ c.requires

pub arrive-requires : goal.arrive-requires
arrive-requires c = moved-arriving _ _ _ _ _ c.requires _ c.due-due.ensures _ _ c.keep-kept.ensures _ c.next-detector.ensures

pub returns : goal.returns
returns c = moved-turn _ _ _ _ _ c.requires _ c.due-due.ensures _ _ c.keep-kept.ensures _ c.next-detector.ensures _ _ c.arrive.ensures
