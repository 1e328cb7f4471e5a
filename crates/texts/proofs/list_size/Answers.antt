use Prim.Native.Nat.{◌+◌, ◌-◌}
use native.Mathlib.Omega.{arith}
use lib.ListN.{drop, length-drop}
use lib.Seq.{length-take-le}
use Rattle.texts.proofs.Names.{sizes-sliced}
use Rattle.texts.proofs.list_size.Goals as goal

pub returns : goal.returns
returns c =
    let l = c.args.lens.now in
    let b = c.args.b in
    let p = c.measure-constants.ensures in
    let q = c.measure-compounds.ensures in
    let r = c.measure-predicates.ensures in (
      omega (arith, p.0, q.0, r.0, sizes-sliced 11264 b.compounds l, sizes-sliced 19712 b.predicates l),
      omega (
        arith,
        p.1,
        q.1,
        r.1,
        length-take-le b.constants l (omega arith),
        length-take-le (11264 + b.compounds - 11264) (drop 11264 l) (omega (arith, length-drop 11264 l)),
        length-take-le (19712 + b.predicates - 19712) (drop 19712 l) (omega (arith, length-drop 19712 l)),
      ),
    )
