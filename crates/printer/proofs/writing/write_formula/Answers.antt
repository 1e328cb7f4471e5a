use mathlib.Core.Path.{refl}
use Rattle.printer.proofs.Wrote.{wrote-formula_0, wrote-formula}
use Rattle.printer.proofs.writing.write_formula.Goals as goal

pub returns-then-n-eq0 : goal.returns-then-n-eq0
returns-then-n-eq0 c = wrote-formula_0 _ _ _ _ _ _ _ _ _ _ _ _ c.put_sign-sign.ensures c.put_symbol-name.ensures c.next_turn-turn.ensures c.if-n-eq0.true c.requires.room refl

pub returns : goal.returns
returns c = wrote-formula _ _ _ _ _ _ _ _ _ _ _ _ _ _ _ _ c.put_sign-sign.ensures c.put_symbol-name.ensures c.next_turn-turn.ensures c.if-n-eq0.false c.put-end.ensures c.deepen-top.ensures.0 c.deepen-top.ensures.1 c.requires.room refl
