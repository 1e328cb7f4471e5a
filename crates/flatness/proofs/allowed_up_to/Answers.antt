use native.Mathlib.Omega.{arith}
use borrow.Author.Tests.{eq-eqb, ne_eqb}
use Rattle.flatness.proofs.Flattened.{other-end}
use Rattle.flatness.proofs.allowed_up_to.Goals as goal

pub returns-then-plain-eq0 : goal.returns-then-plain-eq0
returns-then-plain-eq0 c = simp (eq-eqb _ _ c.if-plain-eq0.true)

pub returns-then-plain-base : goal.returns-then-plain-base
returns-then-plain-base c = simp (ne_eqb _ _ c.if-plain-eq0.false, eq-eqb _ _ c.if-plain-base.true)

-- the record at fault is in the input
pub overflow_add-result : goal.overflow_add-result
overflow_add-result c =
    record { fits = omega (arith, c.requires.1, c.requires.2, other-end c.args.base c.args.plain c.args.size c.if-plain-eq0.false c.if-plain-base.false) }

pub returns : goal.returns
returns c = simp (ne_eqb _ _ c.if-plain-eq0.false, ne_eqb _ _ c.if-plain-base.false)
