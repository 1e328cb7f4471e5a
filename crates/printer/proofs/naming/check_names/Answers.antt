use native.Mathlib.Omega.{arith}
use Rattle.printer.proofs.Printing.{checked}
use Rattle.printer.proofs.naming.check_names.Goals as goal

pub returns : goal.returns
returns c = checked _ _ (λ i. omega (arith, c.shared_slice_known-1.given i)) c.is_list.ensures
