use Prim.Native.Nat.{◌-◌}
use Rattle.pen.proofs.Layings.{Digits}
use Rattle.pen.proofs.laying.set_digits.Given as goal

abbrev pub invariant-loop-i : goal.invariant-loop-i
invariant-loop-i l = Digits l.v l.five l.n (l.i - 1)
