use native.Mathlib.Omega.{arith}
use Prim.Native.Nat.{◌+◌, ◌/◌}
use lib.ListN.{set, length-set}
use Rattle.drafts.proofs.Pushing.{three}
use Rattle.drafts.proofs.writing.put3.Goals as goal

pub bounds-out-at-2 : goal.bounds-out-at-2
bounds-out-at-2 c = omega (arith, length-set c.args.out.now c.args.at c.args.kind, c.requires.0)

pub bounds-out-at-3 : goal.bounds-out-at-3
bounds-out-at-3 c = omega (arith, length-set c.args.out.now c.args.at c.args.kind, length-set (set c.args.out.now c.args.at c.args.kind) (c.args.at + 1) (c.args.number / 256), c.requires.0)

pub returns : goal.returns
returns c = three _ _ _ _ _ c.requires.0
