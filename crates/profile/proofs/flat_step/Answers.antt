-- `profile::flat_step` meets its contract. Assumes nothing.
use Rattle.std.proofs.Common.{sym as inv, ap, ◌∙◌, arith}
use Rattle.format.specs.declared.Check.{Check}
use Rattle.outcomes.specs.declared.admit.Admitted.{Admitted}
use Rattle.outcomes.specs.Outcome.{step_refused}
use Rattle.flatly.specs.Ways.{by-found, code-found, query-flat-place, step-short, step-taken, step-area-taken, step-refused, step-area-kept}
use Rattle.profile.proofs.flat_step.Goals as goal

pub returns-then-area-lt16387 : goal.returns-then-area-lt16387
returns-then-area-lt16387 c =
    let w = step-short c.args.book.now c.args.query.now c.args.area.now c.if-area-lt16387.true in
    record { answer = c.step.ensures.answer ∙ w.0; area = c.step.ensures.area ∙ w.1 }

pub returns-then-both-eq0 : goal.returns-then-both-eq0
returns-then-both-eq0 c =
    let e = by-found c.args.book.now c.args.query.now _ c.check_flat_query-both.result c.if-area-lt16387.false c.check_flat_query-both.ensures in
    let z = inv (ap (λ (a : Admitted). a.code) e) ∙ c.if-both-eq0.true in
    record { answer = c.step-then-both-eq0.ensures.answer ∙ inv (step-taken _ _ _ z); area = c.step-then-both-eq0.ensures.area ∙ inv (step-area-taken _ _ _ z) }

pub found-a-requires : goal.found-a-requires
found-a-requires c = omega (arith, ap (λ (r : Check). r.place) c.check_flat_query-both.ensures, query-flat-place c.args.book.now c.args.query.now (λ i. omega (arith, c.type_inv.book i)))

pub returns : goal.returns
returns c =
    let e = by-found c.args.book.now c.args.query.now _ c.check_flat_query-both.result c.if-area-lt16387.false c.check_flat_query-both.ensures in
    let n = code-found _ _ _ _ e c.if-both-eq0.false in
    record { answer = c.not_stepped.ensures ∙ ap step_refused (c.found-a.ensures ∙ e) ∙ inv (step-refused _ _ _ n); area = inv (step-area-kept _ _ _ n) }
