use native.Mathlib.Omega.{arith}
use mathlib.Core.Path.{◌∙◌}
use Prim.Native.Nat.{◌+◌}
use mathlib.Core.List.{[], ◌∷◌}
use Rattle.std.proofs.Common.{lt-ltb, le-ltb}
use Rattle.std.proofs.Math.Decide.{dec_lt}
use Rattle.words.specs.Word.{node}
use Rattle.bounds.specs.OftenLaws.{below-places, old-var, old-not}
use Rattle.bounds.proofs.one_if_old.Goals as goal

pub returns : goal.returns
returns c = elim (dec_lt c.args.u (16777216 + c.args.base)) [
  | yes l ↦
      let e = rw (lt-ltb c.args.u (16777216 + c.args.base) l) at c.from.ensures in
      let one = e ∙ old-var c.args.base c.args.u c.requires.0 c.requires.1 l in
      (one, omega (arith, one, below-places c.args.base (node c.args.u ∷ [])))
  | no n ↦
      let e = rw (le-ltb c.args.u (16777216 + c.args.base) (omega (arith, n))) at c.from.ensures in
      (e ∙ old-not c.args.base c.args.u c.requires.0 (omega (arith, n)), omega (arith, e))
]
