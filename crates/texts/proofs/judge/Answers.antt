use Rattle.texts.proofs.Finishing.{finished-good, finished-image, finished-one, finished-two}
use Rattle.texts.proofs.judge.Goals as goal

pub find_arities-requires : goal.find_arities-requires
find_arities-requires c = (finished-good _ _ _ _ _ c.requires, finished-image _ _ _ _ _ c.requires)

pub give-requires : goal.give-requires
give-requires c = finished-one _ _ _ _ _ c.requires _ c.find_arities.ensures c.in-None.is

pub returns-in-Some : goal.returns-in-Some
returns-in-Some c = finished-two _ _ _ _ _ c.requires _ _ _ _ _ _ c.find_arities.ensures c.in-Some.is c.formula_place.ensures.0 c.refused.ensures
