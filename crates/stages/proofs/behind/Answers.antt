use Rattle.stages.proofs.Turning.{span-inside, span-some, span-low}
use native.Mathlib.Omega.{arith}
use mathlib.Core.Logic.{inl, inr}
use Rattle.stages.proofs.Holding.{unexpected-at}
use mathlib.Core.Path.{refl, ap}
use Rattle.grammar.specs.Token.{opening, arrow, stop}
use Rattle.pieces.specs.Found.{front_at}
use Rattle.stages.proofs.Marks.{opening-wrong}
use Rattle.stages.proofs.Turning.{token-turned, gap_turned, half-turned, nothing-turned, inside-at}
use Rattle.stages.proofs.behind.Goals as goal

pub overflow_sub-end : goal.overflow_sub-end
overflow_sub-end c = omega (arith, (inside-at c.requires.2 c.in-Name.is).0)

pub name-requires : goal.name-requires
name-requires c = (record { text = _; vars = _; state = c.requires.0.0; held = c.requires.0.1 }, c.requires.1, omega (arith, (inside-at c.requires.2 c.in-Name.is).0, (inside-at c.requires.2 c.in-Name.is).1, c.requires.3))

pub overflow_sub-end-in-Variable : goal.overflow_sub-end-in-Variable
overflow_sub-end-in-Variable c = omega (arith, (inside-at c.requires.2 c.in-Variable.is).0)

pub variable-requires : goal.variable-requires
variable-requires c = (c.requires.0, c.requires.1, omega (arith, (inside-at c.requires.2 c.in-Variable.is).0, (inside-at c.requires.2 c.in-Variable.is).1, c.requires.3), span-some _ _ (inside-at c.requires.2 c.in-Variable.is).0, span-low _ _ _ _ (inside-at c.requires.2 c.in-Variable.is).1 c.requires.3, span-inside _ _ _ (inside-at c.requires.2 c.in-Variable.is).0 (inside-at c.requires.2 c.in-Variable.is).1)

pub stop-requires : goal.stop-requires
stop-requires c = (record { counts = _; held = record { text = _; vars = _; state = c.requires.0.0; held = c.requires.0.1 } }, c.requires.1)

pub half-requires : goal.half-requires
half-requires c = omega (arith, inside-at c.requires.2 c.in-HalfArrow.is, c.requires.3)

pub stop-requires-in-HalfStop : goal.stop-requires-in-HalfStop
stop-requires-in-HalfStop c = (record { counts = _; held = record { text = _; vars = _; state = c.requires.0.0; held = c.requires.0.1 } }, c.requires.1)

pub half-requires-in-HalfStop : goal.half-requires-in-HalfStop
half-requires-in-HalfStop c = omega (arith, inside-at c.requires.2 c.in-HalfStop.is, c.requires.3)

pub returns-in-Name : goal.returns-in-Name
returns-in-Name c = λ s h. token-turned _ _ _ s _ _ _ _ _ (ap (front_at _ _) c.in-Name.is) (c.name.ensures _ _ s h (span-inside _ _ _ (inside-at c.requires.2 c.in-Name.is).0 (inside-at c.requires.2 c.in-Name.is).1))

pub returns-in-Variable : goal.returns-in-Variable
returns-in-Variable c = λ s h. token-turned _ _ _ s _ _ _ _ _ (ap (front_at _ _) c.in-Variable.is) (c.variable.ensures s h)

pub returns-in-Space : goal.returns-in-Space
returns-in-Space c =
    elim c.in-Space.is [
      | inl e ↦ λ s h. gap_turned _ s _ _ _ _ (ap (front_at _ _) e) refl h c.requires.1
      | inr e ↦ λ s h. gap_turned _ s _ _ _ _ (ap (front_at _ _) e.1) refl h c.requires.1
    ]

pub returns-in-Opening : goal.returns-in-Opening
returns-in-Opening c =
    elim c.in-Opening.is [
      | inl e ↦ λ s h. token-turned _ _ _ s _ _ opening _ _ (ap (front_at _ _) e) (unexpected-at c.unexpected.ensures (opening-wrong _ _ _ h refl c.requires.1))
      | inr e ↦ λ s h. nothing-turned _ _ _ s _ _ _ c.unexpected.ensures (ap (front_at _ _) e)
    ]

pub returns-in-Closing : goal.returns-in-Closing
returns-in-Closing c = λ s h. token-turned _ _ _ s _ _ _ _ _ (ap (front_at _ _) c.in-Closing.is) (c.closing.ensures _ _ s h)

pub returns-in-Comma : goal.returns-in-Comma
returns-in-Comma c = λ s h. token-turned _ _ _ s _ _ _ _ _ (ap (front_at _ _) c.in-Comma.is) (c.comma.ensures _ _ s h)

pub returns-in-Arrow : goal.returns-in-Arrow
returns-in-Arrow c = λ s h. token-turned _ _ _ s _ _ _ _ _ (ap (front_at _ _) c.in-Arrow.is) (c.arrow.ensures _ _ _ s h)

pub returns-in-Stop : goal.returns-in-Stop
returns-in-Stop c = λ s h. token-turned _ _ _ s _ _ _ _ _ (ap (front_at _ _) c.in-Stop.is) (c.stop.ensures _ _ _ s h)

pub returns-in-HalfArrow : goal.returns-in-HalfArrow
returns-in-HalfArrow c = λ s h. half-turned _ _ _ s _ _ arrow c.arrow-in-HalfArrow.result _ (ap (front_at _ _) c.in-HalfArrow.is) refl refl (c.arrow-in-HalfArrow.ensures _ _ _ s h) c.half.ensures

pub returns-in-HalfStop : goal.returns-in-HalfStop
returns-in-HalfStop c = λ s h. half-turned _ _ _ s _ _ stop c.stop-in-HalfStop.result _ (ap (front_at _ _) c.in-HalfStop.is) refl refl (c.stop-in-HalfStop.ensures _ _ _ s h) c.half-in-HalfStop.ensures
