use native.Mathlib.Omega.{arith}
use mathlib.Core.Path.{sym, ◌∙◌}
use Rattle.stages.proofs.Holding.{formulas-low}
use Rattle.reader.proofs.Naming.{plain_step, ready, bracket-sofar, alone-kept, alone-step}
use Rattle.reader.proofs.build.Goals as goal

pub add-requires : goal.add-requires
add-requires c = record { text = _; starts = _; lens = _; heads = _; nexts = _; at = c.requires.at; before = c.requires.before; after = c.requires.after; kept = c.requires.kept; step = plain_step c.requires.turning (sym c.waits.ensures ∙ c.if-not-waits.true) }

pub returns-then-not-waits : goal.returns-then-not-waits
returns-then-not-waits c = record { sofar = λ at s s' k t. c.add.ensures.sofar _ _ _ _ _ at s s' k (plain_step t (sym c.waits.ensures ∙ c.if-not-waits.true)) }

pub open-requires : goal.open-requires
open-requires c = ready c.requires.kept c.requires.turning (sym c.waits.ensures ∙ c.if-not-waits.false)

pub returns-then-is_opening : goal.returns-then-is_opening
returns-then-is_opening c = record { sofar = λ at s s' k t. bracket-sofar k t (sym c.waits.ensures ∙ c.if-not-waits.false) (sym c.is_opening.ensures ∙ c.if-is_opening.true) c.«open».ensures }

pub alone-d-requires : goal.alone-d-requires
alone-d-requires c = ready c.requires.kept c.requires.turning (sym c.waits.ensures ∙ c.if-not-waits.false)

pub then-more-requires : goal.then-more-requires
then-more-requires c = omega (arith, formulas-low c.requires.turning.held)

pub add-requires-2 : goal.add-requires-2
add-requires-2 c = record { text = _; starts = _; lens = _; heads = _; nexts = _; at = c.requires.at; before = _; after = c.requires.after; kept = alone-kept c.requires.kept c.requires.turning (sym c.waits.ensures ∙ c.if-not-waits.false) (sym c.is_opening.ensures ∙ c.if-is_opening.false) c.alone-d.ensures; step = alone-step c.requires.kept c.requires.turning (sym c.waits.ensures ∙ c.if-not-waits.false) (sym c.is_opening.ensures ∙ c.if-is_opening.false) c.alone-d.ensures _ c.then-more.ensures }

pub returns : goal.returns
returns c = record { sofar = λ at s s' k t. c.add-2.ensures.sofar _ _ _ _ _ at _ s' (alone-kept k t (sym c.waits.ensures ∙ c.if-not-waits.false) (sym c.is_opening.ensures ∙ c.if-is_opening.false) c.alone-d.ensures) (alone-step k t (sym c.waits.ensures ∙ c.if-not-waits.false) (sym c.is_opening.ensures ∙ c.if-is_opening.false) c.alone-d.ensures _ c.then-more.ensures) }
