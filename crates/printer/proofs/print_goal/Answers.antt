use native.Mathlib.Omega.{arith}
use Rattle.printer.proofs.Printing.{goal_image, goal-printed, formulas-refused}
use Rattle.printer.proofs.print_goal.Goals as goal

pub print_image-requires : goal.print_image-requires
print_image-requires c = goal_image _ _ (λ i. omega (arith, c.shared_slice_known-2-1.given i)) _ c.if-found-eq0.true c.check_query-found.ensures

pub returns-then-found-eq0 : goal.returns-then-found-eq0
returns-then-found-eq0 c = record { answer = (goal-printed _ _ (λ i. omega (arith, c.shared_slice_known-2-1.given i)) _ c.if-found-eq0.true c.check_query-found.ensures _ _ _ _ c.print_image.ensures).0; text = (goal-printed _ _ (λ i. omega (arith, c.shared_slice_known-2-1.given i)) _ c.if-found-eq0.true c.check_query-found.ensures _ _ _ _ c.print_image.ensures).1 }

pub returns : goal.returns
returns c = record { answer = (formulas-refused _ _ _ _ _ _ c.check_query-found.ensures c.if-found-eq0.false c.refusal.ensures).0; text = (formulas-refused _ _ _ _ _ _ c.check_query-found.ensures c.if-found-eq0.false c.refusal.ensures).1 }
