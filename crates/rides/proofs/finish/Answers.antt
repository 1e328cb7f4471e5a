use Rattle.rides.proofs.Rides.{freed, arrived}
use native.Mathlib.Omega.{arith}
use borrow.Author.Rules.{rules}
use Rattle.rides.proofs.finish.Goals as goal

pub returns-then-detector-since : goal.returns-then-detector-since
returns-then-detector-since c = record { went = λ P q saved g a v h. tt; free = freed _ _ _ _ _ c.requires.1 c.clear.ensures }

pub returns : goal.returns
returns c = record { went = λ P q saved g a v h. arrived c.args.x _ _ _ _ _ c.requires.0 (search rules) (omega arith) v (c.in_ok-row.ensures.row g a h); free = freed _ _ _ _ _ c.requires.1 c.clear-2.ensures }

pub returns-in_err-row-clause-free : goal.returns-in_err-row-clause-free
returns-in_err-row-clause-free c = freed _ _ _ _ _ c.requires.1 c.clear-2.ensures
