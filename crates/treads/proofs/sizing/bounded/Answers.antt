use native.Mathlib.Omega.{arith}
use mathlib.Core.Path.{refl}
use Rattle.treads.proofs.Summing.{smaller}
use Rattle.treads.proofs.sizing.bounded.Goals as goal

pub overflow_add-total : goal.overflow_add-total
overflow_add-total c = record { fits = omega (arith, c.requires.most_bound.1, c.requires.extra_bound.0) }

pub overflow_add-total-2 : goal.overflow_add-total-2
overflow_add-total-2 c = record { fits = omega (arith, c.requires.most_bound.1, c.requires.extra_bound.0, c.requires.most_bound.3) }

pub overflow_add-found : goal.overflow_add-found
overflow_add-found c = record { fits = omega (arith, c.requires.most_bound.2, c.requires.extra_bound.0) }

pub overflow_add-more : goal.overflow_add-more
overflow_add-more c = record { fits = omega (arith, c.requires.most_bound.4, c.requires.extra_bound.1) }

pub overflow_add-nodes : goal.overflow_add-nodes
overflow_add-nodes c = record { fits = omega (arith, c.if-nodes-gt4096.false, c.if-found-gt4096.false) }

pub often-requires : goal.often-requires
often-requires c = (c.requires.most_bound.0, c.requires.extra_bound.2)

pub returns : goal.returns
returns c = record { nodes_are = omega (arith, c.if-total-more.false); found_is = refl; goal_room = omega (arith, c.if-nodes-gt4096.false); answer_room = omega (arith, c.if-found-gt4096.false); spread = (smaller _ _ c.min-variables.ensures).0; few = (smaller _ _ c.min-variables.ensures).1; often = c.often.ensures; least_is = refl; names_are = refl }
