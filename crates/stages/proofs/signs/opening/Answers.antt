use Rattle.stages.proofs.Holding.{named-nodes, named-depth, moved}
use Rattle.stages.proofs.Marks.{opening-goes}
use Rattle.stages.proofs.signs.opening.Goals as goal

pub bracket-requires : goal.bracket-requires
bracket-requires c = (c.requires, named-nodes _ c.requires.held c.in-Named.is, named-depth _ c.requires.held c.in-Named.is)

pub returns-in-Named : goal.returns-in-Named
returns-in-Named c = λ text vars s h. moved c.bracket.ensures.0 c.bracket.ensures.1 (opening-goes _ _ h c.in-Named.is (named-depth _ h c.in-Named.is))
