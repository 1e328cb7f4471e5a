use Prim.Native.Nat.{◌-◌}
use native.Mathlib.Omega.{arith}
use Rattle.picking.proofs.Trials.{checks, finds}
use Rattle.picking.proofs.conclude.Goals as goal

pub acyclic-requires : goal.acyclic-requires
acyclic-requires c = checks c.args.words.now (c.args.n - 0) c.args.n (omega arith) c.requires.5

pub returns : goal.returns
returns c = λ m x y j u l. finds c.args.words.now (c.args.n - 0) c.args.n (omega arith) u _ _ c.acyclic.ensures.0 l
