use Rattle.format.proofs.Taken.{base-small, number_small}
use native.Mathlib.Omega.{arith}
use Rattle.records.proofs.refused.Goals as goal

pub overflow_add-result : goal.overflow_add-result
overflow_add-result c = omega (arith, c.code_base.ensures, c.fault_number.ensures, base-small c.args.form, number_small c.args.fault)

pub returns : goal.returns
returns c = simp (c.code_base.ensures, c.fault_number.ensures)
