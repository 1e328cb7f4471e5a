use native.Mathlib.Omega.{arith}
use mathlib.Core.Path.{◌∙◌}
use Rattle.records.proofs.Passed.{passes-compound}
use Rattle.records.proofs.passing.pass_compound.Goals as goal

pub returns-clause-passes : goal.returns-clause-passes
returns-clause-passes c m form few =
    rw c.from-arity.ensures
    (passes-compound _ _ c.requires.ready c.requires.terms_nonzero m form few c.requires.at_value (λ z. c.if-arity-eq0.false (c.from-arity.ensures ∙ z)) (omega arith))
