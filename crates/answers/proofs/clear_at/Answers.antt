use native.Mathlib.Omega.{arith}
use Rattle.answers.proofs.Clearing.{clearing-one, variable-body}
use borrow.Author.Rules.{rules}
use Rattle.answers.proofs.clear_at.Goals as goal

pub bounds-copy-at-then-copy-at-eq1 : goal.bounds-copy-at-then-copy-at-eq1
bounds-copy-at-then-copy-at-eq1 c = let h = variable-body c.args.copy.now c.args.at c.if-copy-at-eq1.true c.requires in omega (arith, h)

pub bounds-copy-at-then-copy-at-eq1-2 : goal.bounds-copy-at-then-copy-at-eq1-2
bounds-copy-at-then-copy-at-eq1-2 c = let h = variable-body c.args.copy.now c.args.at c.if-copy-at-eq1.true c.requires in search rules

pub returns-then-copy-at-eq1 : goal.returns-then-copy-at-eq1
returns-then-copy-at-eq1 c = search clearing-one

pub returns-else-copy-at-eq1 : goal.returns-else-copy-at-eq1
returns-else-copy-at-eq1 c = search clearing-one
