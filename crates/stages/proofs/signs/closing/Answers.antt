use native.Mathlib.Omega.{arith}
use mathlib.Core.Path.{sym, refl, ◌∙◌}
use Rattle.grammar.specs.Token.{closing}
use Rattle.stages.proofs.Holding.{depth-inside, sign-wrong, moved, unexpected-at}
use Rattle.stages.proofs.Marks.{closing-root, closing-empty, closing-goes}
use Rattle.stages.proofs.signs.closing.Goals as goal

pub returns-then-not-complete : goal.returns-then-not-complete
returns-then-not-complete c = λ text vars s h. unexpected-at c.unexpected.ensures (sign-wrong _ _ closing h c.requires.1 (sym c.complete.ensures ∙ c.if-not-complete.true) (λ f g. refl))

pub returns-then-c-eq0 : goal.returns-then-c-eq0
returns-then-c-eq0 c = λ text vars s h. unexpected-at c.unexpected-then-c-eq0.ensures (closing-root _ _ h (sym c.complete.ensures ∙ c.if-not-complete.false) c.if-c-eq0.true)

pub get-requires : goal.get-requires
get-requires c = omega (arith, depth-inside c.requires.0.held, c.if-c-eq0.false)

pub returns-then-get-eq0 : goal.returns-then-get-eq0
returns-then-get-eq0 c = λ text vars s h. unexpected-at c.unexpected-then-get-eq0.ensures (closing-empty _ _ h (sym c.complete.ensures ∙ c.if-not-complete.false) (sym c.get.ensures.0 ∙ c.if-get-eq0.true))

pub shut-requires : goal.shut-requires
shut-requires c = (c.requires.0, omega (arith, c.if-c-eq0.false))

pub returns : goal.returns
returns c = λ text vars s h. moved c.shut.ensures.0 c.shut.ensures.1 (closing-goes _ _ h (sym c.complete.ensures ∙ c.if-not-complete.false) c.if-c-eq0.false (λ e. c.if-get-eq0.false (c.get.ensures.0 ∙ e)))
