use Prim.Native.Nat.{◌-◌}
use native.Mathlib.Omega.{arith}
use mathlib.Core.Path.{◌∙◌}
use Rattle.picking.proofs.Trials.{prepares}
use Rattle.weighing.proofs.Weighs.{number_is}
use borrow.Author.Rules.{rules}
use Rattle.weighing.proofs.failing.Goals as goal

pub pair-n-requires : goal.pair-n-requires
pair-n-requires c = let k = c.requires in (search rules, search rules, λ x l. (k.0.1.fit x l).valid, λ x l. (k.1.2.fit x l).valid)

pub unify-requires : goal.unify-requires
unify-requires c = let q = prepares c.requires.1.0 c.requires.0.1 c.requires.1.2 c.pair-n.ensures (c.pair-n.result - 0) (omega arith) (search rules) in (q.0, q.1)

pub returns : goal.returns
returns c = λ f c' k p h same. number_is c' p h c.pair-n.ensures same _ (c.pair-n.result - 0) (omega arith) c.unify.ensures.0
