use mathlib.Core.Path.{sym, refl, ◌∙◌}
use Rattle.grammar.specs.Token.{comma}
use Rattle.stages.proofs.Holding.{depth-inside, sign-wrong, moved, unexpected-at}
use Rattle.stages.proofs.Marks.{sign-refused, comma-goes}
use Rattle.stages.proofs.signs.comma.Goals as goal

pub returns-then-not-complete : goal.returns-then-not-complete
returns-then-not-complete c = λ text vars s h. unexpected-at c.unexpected.ensures (sign-wrong _ _ comma h c.requires.1 (sym c.complete.ensures ∙ c.if-not-complete.true) (λ f g. refl))

pub comma_may-requires : goal.comma_may-requires
comma_may-requires c = depth-inside c.requires.0.held

pub returns-then-comma_may : goal.returns-then-comma_may
returns-then-comma_may c = λ text vars s h. moved c.expecting.ensures refl (comma-goes _ _ h (sym c.complete.ensures ∙ c.if-not-complete.false) (sym (c.comma_may.ensures s.part h.deep h.formulas_are) ∙ c.if-comma_may.true))

pub returns : goal.returns
returns c = λ text vars s h. unexpected-at c.unexpected-2.ensures (sign-refused _ _ h (sym c.complete.ensures ∙ c.if-not-complete.false) (sym (c.comma_may.ensures s.part h.deep h.formulas_are) ∙ c.if-comma_may.false))
