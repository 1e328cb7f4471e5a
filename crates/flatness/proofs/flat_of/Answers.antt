use native.Mathlib.Omega.{arith}
use Rattle.flatness.proofs.Flattened.{of-long, of-found, of_none}
use Rattle.flatness.proofs.flat_of.Goals as goal

pub returns-then-byte_limit-bytes : goal.returns-then-byte_limit-bytes
returns-then-byte_limit-bytes c = of-long _ _ _ _ (omega arith)

pub returns-in-Some : goal.returns-in-Some
returns-in-Some c =
    rw c.code_base-base.ensures (of-found _ _ _ _ (omega arith) _ _ (rw c.code_base-base.ensures at c.allowed_up_to-end.ensures) c.in-Some.ensures.1 c.in-Some.ensures.0)

pub returns-in-None : goal.returns-in-None
returns-in-None c = of_none _ _ _ _ (omega arith) _ _ (rw c.code_base-base.ensures at c.allowed_up_to-end.ensures) c.in-None.ensures (omega arith)
