use Prim.Native.Nat.{suc}
use native.Mathlib.Omega.{arith}
use mathlib.Core.Path.{refl}
use Rattle.picking.proofs.Picks.{placed_at}
use borrow.Author.Rules.{rules}
use Rattle.trying.proofs.stepping.parts_of.Goals as goal

pub entry-s-requires : goal.entry-s-requires
entry-s-requires c = (search rules, omega (arith, c.requires.0.3, c.requires.0.2.held.few), omega (arith, c.requires.0.3, c.requires.0.2.long))

pub entry-e-requires : goal.entry-e-requires
entry-e-requires c = (search rules, omega (arith, c.requires.0.3, c.requires.0.2.held.few), omega (arith, c.requires.0.3, c.requires.0.2.long))

pub overflow_sub-result : goal.overflow_sub-result
overflow_sub-result c = omega (arith, (placed_at c.requires.0.2 c.args.i _ _ c.requires.0.3 c.entry-s.ensures.0 c.entry-e.ensures.0).begins)

pub overflow_add-result : goal.overflow_add-result
overflow_add-result c = record { fits = omega (arith, c.requires.1, c.entry-e.ensures.1) }

pub entry-requires : goal.entry-requires
entry-requires c = (search rules, omega (arith, c.requires.0.3, c.requires.0.2.held.few), omega (arith, c.requires.0.3, c.requires.0.2.long))

pub overflow_sub-result-2 : goal.overflow_sub-result-2
overflow_sub-result-2 c = omega (arith, c.requires.2)

pub returns : goal.returns
returns c = λ n l. rw (c.entry-s.ensures.0 (suc n) (omega (arith, l)), c.entry-e.ensures.0 n l, c.entry.ensures.0 n l) refl
