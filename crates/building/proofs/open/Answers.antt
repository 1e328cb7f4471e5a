use native.Mathlib.Omega.{arith}
use mathlib.Core.Path.{refl}
use Rattle.building.proofs.Places.{depth-nodes, len_low, opened-all}
use Rattle.building.proofs.open.Goals as goal

pub overflow_cast-opens : goal.overflow_cast-opens
overflow_cast-opens c = omega (arith, len_low c.requires.built c.requires.count)

pub offset_bounds-opens-depth : goal.offset_bounds-opens-depth
offset_bounds-opens-depth c = omega (arith, depth-nodes _ _ c.requires.built.opened, c.requires.count)

pub bounds-opens-depth : goal.bounds-opens-depth
bounds-opens-depth c = omega (arith, depth-nodes _ _ c.requires.built.opened, c.requires.count, c.requires.built.opens_long)

pub symbol-requires : goal.symbol-requires
symbol-requires c = record { somewhere = record { base = _; spots = _; drafted = c.requires.built.drafted }; len_bound = (len_low c.requires.built c.requires.count, c.requires.name_inside, c.requires.name_low, c.requires.name_short) }

pub returns : goal.returns
returns c = opened-all _ _ _ _ _ _ _ _ _ _ _ _ _ _ _ _ c.kind_at-kind.ensures refl c.symbol.ensures
