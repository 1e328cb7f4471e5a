use native.Mathlib.Omega.{arith}
use Rattle.building.proofs.Places.{depth-nodes, len_low, top-facts, top-somewhere, alone-root, alone-nested}
use Rattle.building.proofs.alone.Goals as goal

pub symbol-requires : goal.symbol-requires
symbol-requires c = record { somewhere = record { base = _; spots = _; drafted = c.requires.built.drafted }; len_bound = (len_low c.requires.built c.requires.count, c.requires.name_inside, c.requires.name_low, c.requires.name_short) }

pub returns-then-depth-eq0 : goal.returns-then-depth-eq0
returns-then-depth-eq0 c = alone-root _ _ _ _ _ _ _ _ _ _ _ _ _ _ c.if-depth-eq0.true c.symbol.ensures

pub bump-requires : goal.bump-requires
bump-requires c = (omega (arith, depth-nodes _ _ c.requires.built.opened, c.requires.count, c.requires.built.opens_long, c.if-depth-eq0.false), (top-facts _ _ c.requires.built c.requires.small c.requires.count c.if-depth-eq0.false).0, omega (arith, c.requires.built.drafted.long), (top-facts _ _ c.requires.built c.requires.small c.requires.count c.if-depth-eq0.false).1)

pub symbol-requires-2 : goal.symbol-requires-2
symbol-requires-2 c = record { somewhere = top-somewhere _ _ c.requires.built c.if-depth-eq0.false c.bump.ensures; len_bound = (len_low c.requires.built c.requires.count, c.requires.name_inside, c.requires.name_low, c.requires.name_short) }

pub returns : goal.returns
returns c = alone-nested _ _ _ _ _ _ _ _ _ _ _ _ _ _ _ c.if-depth-eq0.false c.bump.ensures c.symbol-2.ensures
