use mathlib.Core.Path.{refl}
use native.Mathlib.Omega.{arith}
use Rattle.resolve.proofs.Lacks.{lacks-unknown, lacks-stuck}
use Rattle.resolve.proofs.none_fits.Goals as goal

pub returns-in-None : goal.returns-in-None
returns-in-None c = λ f P p b n. lacks-unknown _ f P p b (rw c.in-None.is at c.furthest.ensures.figures f P p b) refl n

pub returns-in-Some : goal.returns-in-Some
returns-in-Some c = λ f P p b n. lacks-stuck _ f P p b (rw c.in-Some.is at c.furthest.ensures.figures f P p b) (λ z. omega (arith, z, rw c.in-Some.is at c.furthest.ensures.fails))
