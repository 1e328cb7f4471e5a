use Prim.Native.Nat.{ℕ}
use lib.ListN.{length-replicate}
use Rattle.picker.proofs.Picks.{some-formula, pick-empty, pick-formula}
use Rattle.picker.proofs.from_goal.Goals as goal

pub returns-then-formulas-eq0 : goal.returns-then-formulas-eq0
returns-then-formulas-eq0 c = pick-empty c.if-formulas-eq0.true c.picked.ensures

pub from_formula-requires : goal.from_formula-requires
from_formula-requires c = let s = some-formula c.if-formulas-eq0.false c.requires.1 in (c.requires.0, (s.0, s.1, _, s.2))

pub returns : goal.returns
returns c = pick-formula c.if-formulas-eq0.false c.from_formula.ensures
