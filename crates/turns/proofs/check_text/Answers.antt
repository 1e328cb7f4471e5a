use Rattle.std.proofs.Common.{◌∙◌, ap, arith}
use Rattle.turns.specs.Passing.{checked}
use Rattle.turns.proofs.Walking.{long-checked, fine-checked, refused-checked, refused-low}
use Rattle.turns.proofs.check_text.Goals as goal

pub returns-then-text-gt65536 : goal.returns-then-text-gt65536
returns-then-text-gt65536 c = long-checked c.args.text.now c.if-text-gt65536.true

pub overflow_cast-result : goal.overflow_cast-result
overflow_cast-result c = record { fits = omega (arith, (refused-low c.pass.result _ c.in-Err.is c.pass.ensures).1) }

pub returns-in-Ok : goal.returns-in-Ok
returns-in-Ok c = fine-checked c.args.text.now c.pass.result c.if-text-gt65536.false c.in-Ok.is c.pass.ensures

pub returns-in-Err : goal.returns-in-Err
returns-in-Err c = ap (λ n. checked n c.in-Err.refused.place) c.from.ensures ∙ refused-checked c.args.text.now c.pass.result _ c.if-text-gt65536.false c.in-Err.is c.pass.ensures
