use Rattle.reader.proofs.Walks.{over-grown, built-grown}
use Rattle.reader.proofs.walking.grow.Goals as goal

pub returns-then-b-gt32769 : goal.returns-then-b-gt32769
returns-then-b-gt32769 c = over-grown _ _ _ _ _ _ _ _ c.if-b-gt32769.true

pub build-requires : goal.build-requires
build-requires c = record { at = c.requires.at; before = c.requires.before; after = c.requires.after; kept = c.requires.sofar.kept c.if-b-gt32769.false; turning = c.requires.turning }

pub returns : goal.returns
returns c = built-grown _ _ _ _ _ _ _ _ _ _ _ _ _ _ _ c.if-b-gt32769.false c.build.ensures
