use Prim.Native.Nat.{◌-◌}
use native.Mathlib.Omega.{arith}
use mathlib.Core.Path.{refl}
use Rattle.std.proofs.lemmas.Option.{IfSome_then}
use Rattle.treads.proofs.Summing.{few_product}
use Rattle.treads.proofs.sizing.grown_by.Goals as goal

pub places_bound-requires : goal.places_bound-requires
places_bound-requires c = (c.requires.variables_bound.1, c.requires.variables_bound.6)

pub overflow_sub-extra : goal.overflow_sub-extra
overflow_sub-extra c = omega (arith, c.requires.le_nodes.0)

pub overflow_mul-extra : goal.overflow_mul-extra
overflow_mul-extra c = record { fits = omega (arith, few_product c.places_bound.result (c.args.grown.nodes - 1) 65535 (omega (arith, c.places_bound.ensures.1, c.requires.variables_bound.0)) (omega (arith, c.requires.le_nodes.1))) }

pub overflow_mul-s : goal.overflow_mul-s
overflow_mul-s c = record { fits = omega (arith, few_product c.args.s.variables c.args.grown.variables 65535 c.requires.variables_bound.0 (omega (arith, c.requires.le_nodes.1, c.requires.le_nodes.2))) }

pub bounded-requires : goal.bounded-requires
bounded-requires c = record { most_bound = (c.requires.variables_bound.1, c.requires.variables_bound.2, c.requires.variables_bound.3, c.requires.variables_bound.4, c.requires.variables_bound.5); extra_bound = (few_product c.places_bound.result (c.args.grown.nodes - 1) 65535 (omega (arith, c.places_bound.ensures.1, c.requires.variables_bound.0)) (omega (arith, c.requires.le_nodes.1)), few_product c.args.s.variables c.args.grown.variables 65535 c.requires.variables_bound.0 (omega (arith, c.requires.le_nodes.1, c.requires.le_nodes.2)), c.requires.le_nodes.3) }

pub returns : goal.returns
returns c = IfSome_then c.bounded.result c.bounded.ensures (λ r y. (_, _, _, record { for = c.places_bound.result; for_is = c.places_bound.ensures.0; extra_is = refl; places_are = refl; times_are = refl }, y))
