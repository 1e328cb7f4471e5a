use Rattle.bounds.specs.CountLaws.{larger-max}
use Rattle.bounds.specs.OftenLaws.{grown-weighs}
use Rattle.bounds.proofs.weight_of.Goals as goal

pub returns : goal.returns
returns c = λ base w. grown-weighs c.in_ok-most.ensures c.requires.in_bounds.2 base (larger-max _ _ c.max.ensures)
