use native.Mathlib.Omega.{arith}
use mathlib.Core.Path.{sym as inv, ◌∙◌}
use Rattle.flatness.proofs.Marking.{two_or_four, other-kind, not_new, new-here, body-two}
use Rattle.flatness.proofs.counting.mark.Goals as goal

pub returns-then-bytes-at-clause-new : goal.returns-then-bytes-at-clause-new
returns-then-bytes-at-clause-new c = (other-kind _ _ _ _ (λ e. c.if-bytes-at.true (e ∙ inv c.kind_of.ensures))).0

pub returns-then-bytes-at-clause-table : goal.returns-then-bytes-at-clause-table
returns-then-bytes-at-clause-table c = (other-kind _ _ _ _ (λ e. c.if-bytes-at.true (e ∙ inv c.kind_of.ensures))).1

pub number_at-requires : goal.number_at-requires
number_at-requires c = let h = body-two _ _ _ (c.if-bytes-at.false ∙ c.kind_of.ensures) (two_or_four c.args.what) c.requires in omega arith

pub returns-then-table-n-ne0-clause-new : goal.returns-then-table-n-ne0-clause-new
returns-then-table-n-ne0-clause-new c = (not_new _ _ _ (c.if-bytes-at.false ∙ c.kind_of.ensures) _ (c.from-n.ensures ∙ c.number_at.ensures) _ c.if-table-n-ne0.true).0

pub returns-then-table-n-ne0-clause-table : goal.returns-then-table-n-ne0-clause-table
returns-then-table-n-ne0-clause-table c = (not_new _ _ _ (c.if-bytes-at.false ∙ c.kind_of.ensures) _ (c.from-n.ensures ∙ c.number_at.ensures) _ c.if-table-n-ne0.true).1

pub returns-clause-new : goal.returns-clause-new
returns-clause-new c = (new-here _ _ _ (c.if-bytes-at.false ∙ c.kind_of.ensures) _ (c.from-n.ensures ∙ c.number_at.ensures) c.args.table.now (omega arith) c.if-table-n-ne0.false).0

pub returns-clause-table : goal.returns-clause-table
returns-clause-table c = (new-here _ _ _ (c.if-bytes-at.false ∙ c.kind_of.ensures) _ (c.from-n.ensures ∙ c.number_at.ensures) c.args.table.now (omega arith) c.if-table-n-ne0.false).1
