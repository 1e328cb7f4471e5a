use Rattle.laying.proofs.Holding.{node-put}
use Rattle.laying.specs.declared.Kind.TheVariants.{Variable, Constant, Compound, Predicate}
use mathlib.Core.Path.{refl}
use Rattle.laying.proofs.nodes.put_node.Goals as goal

pub returns-in-Variable : goal.returns-in-Variable
returns-in-Variable c = node-put _ _ _ _ _ _ Variable c.in-Variable.is c.put3.ensures refl

pub returns-in-Constant : goal.returns-in-Constant
returns-in-Constant c = node-put _ _ _ _ _ _ Constant c.in-Constant.is c.put3-in-Constant.ensures refl

pub returns-in-Compound : goal.returns-in-Compound
returns-in-Compound c = node-put _ _ _ _ _ _ Compound c.in-Compound.is c.put4.ensures refl

pub returns-in-Predicate : goal.returns-in-Predicate
returns-in-Predicate c = node-put _ _ _ _ _ _ Predicate c.in-Predicate.is c.put4-in-Predicate.ensures refl
