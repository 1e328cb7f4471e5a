use native.Mathlib.Omega.{arith}
use Rattle.numbers.proofs.Shifts.{ors}
use Rattle.numbers.proofs.pack.Goals as goal

pub returns : goal.returns
returns c = rw (c.from.ensures, c.from-2.ensures, c.from-3.ensures) (ors c.args.code c.args.field c.args.steps (omega arith) (omega arith) (omega arith))
