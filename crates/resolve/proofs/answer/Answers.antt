use mathlib.Core.Path.{refl}
use Rattle.resolve.proofs.answer.Goals as goal

pub returns-then-r-eq-FULL : goal.returns-then-r-eq-FULL
returns-then-r-eq-FULL c = λ P f g a out x. x.full c.if-r-eq-FULL.true

pub returns-then-r-eq-FULL-2 : goal.returns-then-r-eq-FULL-2
returns-then-r-eq-FULL-2 c = λ P f g a out x. x.over c.if-r-eq-FULL.false c.if-r-eq-FULL-2.true

pub returns : goal.returns
returns c = λ P f g a out x. (refl, x.done c.if-r-eq-FULL.false c.if-r-eq-FULL-2.false)
