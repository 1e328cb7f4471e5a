use mathlib.Core.Path.{sym as inv, refl, ◌∙◌}
use Rattle.stages.proofs.Holding.{moved, unexpected-at, limit-some, limit_none, number-some}
use Rattle.stages.proofs.Names.{name-wrong, name_limited, name-long, name-goes}
use Rattle.stages.proofs.naming.name.Goals as goal

pub returns-then-not-awaits : goal.returns-then-not-awaits
returns-then-not-awaits c = λ text vars s h l. unexpected-at c.unexpected.ensures (name-wrong _ _ _ h c.requires.1 (inv c.awaits.ensures ∙ c.if-not-awaits.true))

pub limit-requires : goal.limit-requires
limit-requires c = c.requires.0

pub returns-in-Some : goal.returns-in-Some
returns-in-Some c = λ text vars s h l. name_limited _ _ _ _ h (inv c.awaits.ensures ∙ c.if-not-awaits.false) (limit-some c.in-Some.is (c.limit.ensures text vars s h)) (number-some _)

pub returns-then-len-ge33 : goal.returns-then-len-ge33
returns-then-len-ge33 c = λ text vars s h l. name-long _ _ _ _ h (inv c.awaits.ensures ∙ c.if-not-awaits.false) (limit_none c.in_default.is (c.limit.ensures text vars s h)) refl l c.if-len-ge33.true

pub returns : goal.returns
returns c = λ text vars s h l. moved c.named.ensures refl (name-goes _ _ _ _ h (inv c.awaits.ensures ∙ c.if-not-awaits.false) (limit_none c.in_default.is (c.limit.ensures text vars s h)) refl l c.requires.2 c.if-len-ge33.false)
