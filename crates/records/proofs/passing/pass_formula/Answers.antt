use mathlib.Core.Path.{◌∙◌}
use Rattle.records.proofs.Passed.{passes-formula}
use Rattle.records.proofs.passing.pass_formula.Goals as goal

pub returns-clause-passes : goal.returns-clause-passes
returns-clause-passes c form few =
    rw c.from.ensures
    (passes-formula _ _ c.requires.ready c.args.table.now c.from-p.result c.same.result form few c.requires.terms_value c.requires.formulas_nonzero c.if-bytes-at-ne4.false (c.from-p.ensures ∙ c.number_at.ensures) c.if-arity-gt8.false c.if-table-p.false c.same.ensures c.if-not-same.false)
