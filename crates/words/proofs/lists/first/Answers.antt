use Prim.Native.Nat.{◌%◌}
use native.Mathlib.Omega.{arith}
use Rattle.words.proofs.lists.first.Goals as goal

pub get-requires : goal.get-requires
get-requires c = omega (arith, c.list_of.ensures.1, c.requires.2.long)

pub returns : goal.returns
returns c = λ book P o. let e = c.list_of.ensures.0 in let b = c.list_of.ensures.1 in rw (c.get.ensures.0, e) (o.linked.start (c.args.u % 256) (omega (arith, e, b)))
