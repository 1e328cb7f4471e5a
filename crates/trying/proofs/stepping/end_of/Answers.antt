use Prim.Native.Nat.{suc, ◌+◌, ◌-◌}
use native.Mathlib.Omega.{arith}
use mathlib.Core.Path.{ap₂}
use Rattle.trials.proofs.Tests.{clause-ends}
use borrow.Author.Rules.{rules}
use Rattle.trying.proofs.stepping.end_of.Goals as goal

pub entry-s-requires : goal.entry-s-requires
entry-s-requires c = (search rules, omega (arith, c.requires.0.3, c.requires.0.2.held.few), omega (arith, c.requires.0.3, c.requires.0.2.long))

pub overflow_add-i : goal.overflow_add-i
overflow_add-i c = record { fits = omega (arith, c.requires.0.3, c.requires.0.2.held.few) }

pub entry-t-requires : goal.entry-t-requires
entry-t-requires c = (search rules, omega (arith, c.requires.0.3, c.requires.0.2.held.few), omega (arith, c.requires.0.3, c.requires.0.2.long))

pub overflow_sub-result : goal.overflow_sub-result
overflow_sub-result c = omega (arith, (clause-ends c.requires.0.2 c.args.i _ _ c.requires.0.3 c.entry-s.ensures.0 c.entry-t.ensures.0).0)

pub overflow_add-result : goal.overflow_add-result
overflow_add-result c = record { fits = omega (arith, c.requires.1, c.entry-t.ensures.1) }

pub returns : goal.returns
returns c = λ n l. ap₂ (λ x y. c.args.row + (x - y)) (c.entry-t.ensures.0 (suc n) (omega (arith, l))) (c.entry-s.ensures.0 (suc n) (omega (arith, l)))
