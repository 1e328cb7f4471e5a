use mathlib.Core.Path.{◌∙◌}
use Rattle.records.proofs.Passed.{passes-variable}
use Rattle.records.proofs.passing.pass_variable.Goals as goal

pub returns-clause-passes : goal.returns-clause-passes
returns-clause-passes c m form e few =
    passes-variable _ _ c.requires.ready c.requires.terms_nonzero m form few _ _ _ e c.requires.at_value (c.from-v.ensures ∙ c.number_at.ensures) c.if-most-v.false c.if-x-v.false c.next_unused.ensures
