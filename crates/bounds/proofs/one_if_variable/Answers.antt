use native.Mathlib.Omega.{arith}
use mathlib.Core.Path.{◌∙◌}
use Rattle.std.proofs.Common.{lt-ltb, le-ltb}
use Rattle.std.proofs.Math.Decide.{dec_lt}
use Rattle.bounds.specs.CountLaws.{one-var, one-sym}
use Rattle.bounds.proofs.one_if_variable.Goals as goal

pub returns : goal.returns
returns c = elim (dec_lt c.args.u 33554432) [
  | yes l ↦
      let e = rw (lt-ltb c.args.u 33554432 l) at c.from.ensures in
      (e ∙ one-var c.args.u (omega (arith, c.requires.low, l)), omega (arith, e))
  | no n ↦
      let e = rw (le-ltb c.args.u 33554432 (omega (arith, n))) at c.from.ensures in
      (e ∙ one-sym c.args.u (λ k. omega (arith, k, n)), omega (arith, e))
]
