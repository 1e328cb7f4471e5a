use native.Mathlib.Omega.{arith}
use Prim.Native.Nat.{◌+◌}
use mathlib.Core.Path.{refl}
use Rattle.attempts.proofs.begun.Goals as goal

pub returns : goal.returns
returns c = (c.args.s.nodes + c.args.s.nodes + 32, omega (arith, c.requires), refl)
