use Prim.Native.Nat.{◌-◌}
use native.Mathlib.Omega.{arith}
use Rattle.picking.proofs.Trials.{checks, asks, says}
use Rattle.picking.proofs.argue.Goals as goal

pub equate-requires : goal.equate-requires
equate-requires c = let q = asks c.args.words.now (c.args.n - 0) c.args.n (omega arith) c.requires.3 c.requires.4 in (checks c.args.words.now (c.args.n - 0) c.args.n (omega arith) c.requires.3, q.0, q.1)

pub returns : goal.returns
returns c = ((λ m j u h. says c.args.words.now (c.args.n - 0) c.args.n (omega arith) u h _ _ c.equate.ensures.2 c.equate.ensures.1), c.equate.ensures.2)
