use Prim.Native.Nat.{◌-◌}
use native.Mathlib.Omega.{arith}
use mathlib.Core.Path.{◌∙◌}
use Rattle.picking.proofs.Trials.{prepares, laid}
use borrow.Author.Rules.{rules}
use Rattle.picking.proofs.lay.Goals as goal

pub pair-n-requires : goal.pair-n-requires
pair-n-requires c = let k = c.requires in (search rules, search rules, λ x l. (k.0.1.fit x l).valid, λ x l. (k.1.2.fit x l).valid)

pub prepare-requires : goal.prepare-requires
prepare-requires c = let q = prepares c.requires.1.0 c.requires.0.1 c.requires.1.2 c.pair-n.ensures (c.pair-n.result - 0) (omega arith) (search rules) in (q.0, q.1)

pub returns : goal.returns
returns c = laid c.requires.1.0 c.requires.0.1 c.requires.1.2 c.pair-n.ensures _ c.prepare.result (c.pair-n.result - 0) (omega arith) c.prepare.ensures.0
