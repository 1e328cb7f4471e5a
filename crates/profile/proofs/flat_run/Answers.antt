-- `profile::flat_run` meets its contract. Assumes nothing.
use Rattle.std.proofs.Common.{sym as inv, ap, ◌∙◌, arith}
use Rattle.format.specs.declared.Check.{Check}
use Rattle.outcomes.specs.declared.admit.Admitted.{Admitted}
use Rattle.outcomes.specs.Outcome.{refused}
use Rattle.flatly.specs.Ways.{by-found, code-found, query-flat-place, run_short, run_taken, run-area-taken, run-answer-area-taken, run-refused, run-area-kept, run-answer-area-kept}
use Rattle.profile.proofs.flat_run.Goals as goal

pub returns-then-shorter-lt16387 : goal.returns-then-shorter-lt16387
returns-then-shorter-lt16387 c =
    let s = c.run.ensures in
    let w = run_short c.args.book.now c.args.query.now c.args.budget c.args.area.now c.args.answer.now (rw c.shorter.ensures at c.if-shorter-lt16387.true) in
    record { said = s.said ∙ w.0; area = s.area ∙ w.1; answer = s.answer ∙ w.2 }

pub returns-then-both-eq0 : goal.returns-then-both-eq0
returns-then-both-eq0 c =
    let e = by-found c.args.book.now c.args.query.now _ c.check_flat_query-both.result (rw c.shorter.ensures at c.if-shorter-lt16387.false) c.check_flat_query-both.ensures in
    let z = inv (ap (λ (a : Admitted). a.code) e) ∙ c.if-both-eq0.true in
    let s = c.run-then-both-eq0.ensures in
    record { said = s.said ∙ inv (run_taken _ _ _ _ _ z); area = s.area ∙ inv (run-area-taken _ _ _ _ _ z); answer = s.answer ∙ inv (run-answer-area-taken _ _ _ _ _ z) }

pub found-requires : goal.found-requires
found-requires c = omega (arith, ap (λ (r : Check). r.place) c.check_flat_query-both.ensures, query-flat-place c.args.book.now c.args.query.now (λ i. omega (arith, c.type_inv.book i)))

pub returns : goal.returns
returns c =
    let e = by-found c.args.book.now c.args.query.now _ c.check_flat_query-both.result (rw c.shorter.ensures at c.if-shorter-lt16387.false) c.check_flat_query-both.ensures in
    let n = code-found _ _ _ _ e c.if-both-eq0.false in
    record { said = c.refused.ensures ∙ ap refused (c.found.ensures ∙ e) ∙ inv (run-refused _ _ _ _ _ n); area = inv (run-area-kept _ _ _ _ _ n); answer = inv (run-answer-area-kept _ _ _ _ _ n) }
