use native.Mathlib.Omega.{arith}
use mathlib.Core.Path.{◌≡◌, refl}
use lib.ListN.{length-set}
use Rattle.areas.proofs.Rows.{repeat_none, repeat_more, repeated}
use Rattle.areas.proofs.repeat.Goals as goal

pub loop-i-init : goal.loop-i-init
loop-i-init c = (refl, repeat_none c.args.row.now c.args.n)

pub loop-i-preserved : goal.loop-i-preserved
loop-i-preserved c = let l = c.loop-i in (simp length-set l.invariant.0, repeat_more _ _ _ l.i c.requires (omega arith) l.invariant.1)

pub returns : goal.returns
returns c = let l = c.loop-i in let e : l.i ≡ c.args.n = omega arith in repeated _ _ _ c.requires (rw e at l.invariant.1)
