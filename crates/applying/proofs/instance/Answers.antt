use borrow.Author.Rules.{rules}
use Prim.Native.Nat.{◌+◌, ◌-◌}
use native.Mathlib.Omega.{arith}
use Rattle.applying.proofs.Lending.{lent, part_length, returned}
use Rattle.applying.proofs.instance.Goals as goal

pub instantiate-requires : goal.instantiate-requires
instantiate-requires c = let q = lent c.args.words.now c.args.rows.now c.args.out.now (search rules) (search rules) c.args.p c.args.s c.args.n c.args.at c.requires.cuts.0 c.requires.cuts.1 c.requires.cuts.2 c.requires.cuts.3 c.requires.fits.0 (c.args.p - 0) (omega arith) c.requires.fits.1 in (q.0, omega (arith, part_length c.args.words.now c.args.rows.now c.args.out.now (search rules) (search rules) c.args.p c.args.s c.args.n c.args.at c.requires.cuts.0 c.requires.cuts.1 c.requires.cuts.2 c.requires.cuts.3 c.requires.fits.0 (c.args.at + 4096 - c.args.at) (omega arith)), q.1)

pub returns : goal.returns
returns c = record { written = returned c.args.words.now c.args.rows.now c.args.out.now (search rules) (search rules) c.args.p c.args.s c.args.n c.args.at c.requires.cuts.0 c.requires.cuts.1 c.requires.cuts.2 c.requires.cuts.3 c.requires.fits.0 (c.args.p - 0) (omega arith) (c.args.at + 4096 - c.args.at) (omega arith) _ _ c.instantiate.auto.out c.instantiate.ensures.0; kept = c.instantiate.ensures.1 }
