use native.Mathlib.Omega.{arith}
use Prim.Native.Nat.{ℕ}
use lib.ListN.{length-replicate}
use mathlib.Core.Path.{◌∙◌}
use Rattle.records.proofs.Tables.{zeros-verdict}
use Rattle.records.proofs.Turns.{one_check}
use Rattle.records.proofs.check_book.Goals as goal

pub returns-in-Some : goal.returns-in-Some
returns-in-Some c = c.in-Some.ensures.answer.told ∙ zeros-verdict _ 1024

pub returns : goal.returns
returns c = one_check c.unwrap.ensures (c.check_input-2.ensures.answer.wide (omega (arith, length-replicate {A = ℕ} 65536 0))) ∙ zeros-verdict _ 65536
