use Prim.Native.Nat.{◌-◌}
use native.Mathlib.Omega.{arith}
use mathlib.Core.Path.{refl}
use lib.ListN.{length}
use Rattle.bounds.specs.CountLaws.{larger-max}
use Rattle.bounds.specs.ClauseLaws.{thrift-end}
use Rattle.bounds.proofs.clauses.thrift_with.Goals as goal

pub returns : goal.returns
returns c = thrift-end c.args.clause.now c.args.head c.args.first c.args.head (c.args.first - c.args.head) (length c.args.clause.now - c.args.first) (omega arith) refl refl c.requires.fits.2 c.requires.fits.1 c.note-a.ensures c.in_ok-b.ensures c.in_ok-c.ensures (larger-max _ _ c.max.ensures) (larger-max _ _ c.max-2.ensures) refl
