use Rattle.building.proofs.Places.{bumped-at, bump_low}
use Rattle.building.proofs.bump.Goals as goal

pub raise-requires : goal.raise-requires
raise-requires c = bump_low c.args.out.now c.args.from _ _ _ c.get-more.ensures.0 c.requires.1 c.requires.3

pub returns : goal.returns
returns c = bumped-at c.args.out.now _ c.args.from _ _ c.get-more.ensures.0 c.raise.ensures
