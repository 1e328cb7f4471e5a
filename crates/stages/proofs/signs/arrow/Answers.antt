use mathlib.Core.Path.{sym, refl, ◌∙◌}
use Rattle.grammar.specs.Token.{arrow}
use Rattle.stages.proofs.Holding.{sign-wrong, moved, unexpected-at}
use Rattle.stages.proofs.Marks.{arrow-nested, arrow-later, arrow-goes}
use Rattle.stages.proofs.signs.arrow.Goals as goal

pub returns-then-not-complete : goal.returns-then-not-complete
returns-then-not-complete c = λ text counts vars s h. unexpected-at c.unexpected.ensures (sign-wrong _ _ arrow h c.requires (sym c.complete.ensures ∙ c.if-not-complete.true) (λ f g. refl))

pub returns-then-c-ne0 : goal.returns-then-c-ne0
returns-then-c-ne0 c = λ text counts vars s h. unexpected-at c.unexpected-then-c-ne0.ensures (arrow-nested _ _ h (sym c.complete.ensures ∙ c.if-not-complete.false) c.if-c-ne0.true)

pub returns-then-c-ne1 : goal.returns-then-c-ne1
returns-then-c-ne1 c = λ text counts vars s h. unexpected-at c.unexpected-then-c-ne1.ensures (arrow-later _ _ h (sym c.complete.ensures ∙ c.if-not-complete.false) c.if-c-ne0.false c.if-c-ne1.true)

pub returns : goal.returns
returns c = λ text counts vars s h. moved c.expecting.ensures refl (arrow-goes _ _ h (sym c.complete.ensures ∙ c.if-not-complete.false) c.if-c-ne0.false c.if-c-ne1.false)
