use borrow.Author.Rules.{rules}
use native.Mathlib.Omega.{arith}
use mathlib.Core.Path.{sym as inv, ◌∙◌}
use Rattle.records.proofs.Tables.{body-four, other_at, arity-small, entry-written}
use Rattle.records.proofs.arities.meet.Goals as goal

pub returns-then-bytes-at-ne4-clause-met : goal.returns-then-bytes-at-ne4-clause-met
returns-then-bytes-at-ne4-clause-met c = inv (other_at _ _ _ c.if-bytes-at-ne4.true)

pub number_at-requires : goal.number_at-requires
number_at-requires c = let h = body-four _ _ c.if-bytes-at-ne4.false c.requires.at_in_bounds in omega arith

pub bounds-bytes-at-2 : goal.bounds-bytes-at-2
bounds-bytes-at-2 c = body-four _ _ c.if-bytes-at-ne4.false c.requires.at_in_bounds

pub overflow_add-table-2 : goal.overflow_add-table-2
overflow_add-table-2 c = let h = arity-small _ _ c.if-bytes-at-ne4.false c.requires.at_value in search rules

pub returns-clause-met : goal.returns-clause-met
returns-clause-met c = entry-written _ _ _ c.from-p.result c.if-bytes-at-ne4.false (c.from-p.ensures ∙ c.number_at.ensures) c.if-table-p.false
