use mathlib.Core.Path.{sym, ap, ◌∙◌}
use Rattle.grammar.specs.Token.{opening}
use Rattle.pieces.specs.Found.{front_at}
use Rattle.reading.specs.Part.{settle}
use Rattle.stages.proofs.Turning.{token-turned, unsettled, is_bracket}
use Rattle.stages.proofs.turn.Goals as goal

pub opening-requires : goal.opening-requires
opening-requires c = record { text = _; vars = _; state = c.requires.0.0; held = c.requires.0.1 }

pub returns-then-is_opening : goal.returns-then-is_opening
returns-then-is_opening c = λ s h. token-turned _ _ _ s _ _ opening _ _ (ap (front_at c.args.text.now c.args.at) (is_bracket c.args.found (sym c.is_opening.ensures ∙ c.if-is_opening.true))) (c.opening.ensures _ _ s h)

pub settle-d-requires : goal.settle-d-requires
settle-d-requires c = record { text = _; vars = _; state = c.requires.0.0; held = c.requires.0.1 }

pub behind-requires : goal.behind-requires
behind-requires c = ((settle c.requires.0.0, c.settle-d.ensures.0 _ _ c.requires.0.0 c.requires.0.1), c.settle-d.ensures.1, c.requires.1, c.requires.2)

pub returns : goal.returns
returns c = λ s h. unsettled _ _ _ s _ _ _ (sym c.is_opening.ensures ∙ c.if-is_opening.false) (c.behind.ensures (settle s) (c.settle-d.ensures.0 _ _ s h))
