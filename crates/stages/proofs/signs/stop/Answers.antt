use native.Mathlib.Omega.{arith}
use mathlib.Core.Path.{sym, refl, ◌∙◌}
use Rattle.grammar.specs.Token.{stop}
use Rattle.stages.proofs.Holding.{sign-wrong, rules-low, moved, unexpected-at}
use Rattle.stages.proofs.Marks.{stop-nested, stop-empty, stop_goes}
use Rattle.stages.proofs.signs.stop.Goals as goal

pub returns-then-not-complete : goal.returns-then-not-complete
returns-then-not-complete c = λ text counts vars s h. unexpected-at c.unexpected.ensures (sign-wrong _ _ stop h c.requires.1 (sym c.complete.ensures ∙ c.if-not-complete.true) (λ f g. refl))

pub returns-then-c-ne0 : goal.returns-then-c-ne0
returns-then-c-ne0 c = λ text counts vars s h. unexpected-at c.unexpected-then-c-ne0.ensures (stop-nested _ _ h (sym c.complete.ensures ∙ c.if-not-complete.false) c.if-c-ne0.true)

pub returns-then-c-eq0 : goal.returns-then-c-eq0
returns-then-c-eq0 c = λ text counts vars s h. unexpected-at c.unexpected-then-c-eq0.ensures (stop-empty _ _ h (sym c.complete.ensures ∙ c.if-not-complete.false) c.if-c-ne0.false c.if-c-eq0.true)

pub finished-requires : goal.finished-requires
finished-requires c = omega (arith, rules-low c.requires.0.held.held)

pub returns : goal.returns
returns c = λ text counts vars s h. moved c.finished.ensures refl (stop_goes _ _ h (sym c.complete.ensures ∙ c.if-not-complete.false) c.if-c-ne0.false c.if-c-eq0.false)
