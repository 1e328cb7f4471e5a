use Rattle.nametable.specs.Table.{word}
use Rattle.stages.proofs.Names.{passed-nodes}
use native.Mathlib.Omega.{arith}
use mathlib.Core.Path.{sym as inv, refl, ◌∙◌}
use Rattle.stages.proofs.Holding.{moved, unexpected-at, limit-some, limit_none, number-some}
use Rattle.stages.proofs.Names.{variable-wrong, variable_limited, variable-crowded, variable-goes, number-within}
use Rattle.stages.proofs.naming.variable.Goals as goal

pub returns-then-not-argument_may : goal.returns-then-not-argument_may
returns-then-not-argument_may c = λ s h. unexpected-at c.unexpected.ensures (variable-wrong _ _ _ h c.requires.1 (inv c.argument_may.ensures ∙ c.if-not-argument_may.true))

pub limit-requires : goal.limit-requires
limit-requires c = record { text = _; vars = _; state = c.requires.0.0; held = c.requires.0.1 }

pub returns-in-Some : goal.returns-in-Some
returns-in-Some c = λ s h. variable_limited _ _ _ _ h (inv c.argument_may.ensures ∙ c.if-not-argument_may.false) (limit-some c.in-Some.is (c.limit.ensures _ _ s h)) (number-some _)

pub number-v-requires : goal.number-v-requires
number-v-requires c = ((_, c.requires.0.1.variables_are), omega (arith, c.requires.0.1.vars_long), c.requires.5)

pub returns-then-v-ge64 : goal.returns-then-v-ge64
returns-then-v-ge64 c = λ s h. variable-crowded _ _ _ _ _ h (inv c.argument_may.ensures ∙ c.if-not-argument_may.false) (limit_none c.in_default.is (c.limit.ensures _ _ s h)) refl (c.number-v.ensures _ h.variables_are) c.if-v-ge64.true

pub keep-variables-requires : goal.keep-variables-requires
keep-variables-requires c = (c.requires.0.1.variables_are.few, c.if-v-ge64.false, number-within _ _ (word c.args.text.now c.args.at c.args.len) c.requires.0.1 (c.number-v.ensures _ c.requires.0.1.variables_are), c.requires.2, c.requires.3, c.requires.4, c.requires.0.1.vars_long)

pub with_argument-requires : goal.with_argument-requires
with_argument-requires c = (record { text = _; vars = _; state = c.requires.0.0; held = c.requires.0.1 }, passed-nodes _ _ c.requires.0.1 (limit_none c.in_default.is (c.limit.ensures _ _ c.requires.0.0 c.requires.0.1)) refl)

pub returns : goal.returns
returns c = λ s h. moved c.with_argument.ensures.0 c.with_argument.ensures.1 (variable-goes _ _ _ _ _ _ _ h (inv c.argument_may.ensures ∙ c.if-not-argument_may.false) (limit_none c.in_default.is (c.limit.ensures _ _ s h)) refl (c.number-v.ensures _ h.variables_are) c.if-v-ge64.false (c.keep-variables.ensures _ _ h.variables_are (c.number-v.ensures _ h.variables_are) c.requires.5) (omega (arith, c.keep-variables.auto.vars, h.vars_long)))
