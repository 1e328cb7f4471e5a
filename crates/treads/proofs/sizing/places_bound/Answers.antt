use Prim.Native.Nat.{◌*◌}
use native.Mathlib.Omega.{arith}
use Rattle.treads.proofs.Summing.{few_product, smaller}
use Rattle.treads.proofs.sizing.places_bound.Goals as goal

pub overflow_mul-s : goal.overflow_mul-s
overflow_mul-s c = record { fits = omega (arith, few_product c.args.s.most c.args.count 8448 c.requires.0 c.requires.1) }

pub returns : goal.returns
returns c = smaller (c.args.s.most * c.args.count) c.args.s.variables c.min.ensures
