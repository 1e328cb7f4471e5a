use borrow.Author.Tests.{lt-ltb, le-ltb}
use mathlib.Core.Path.{sym}
use Rattle.format.specs.Reading.{verdict}
use Rattle.records.proofs.Turns.{says}
use Rattle.records.proofs.check_input.Goals as goal

pub returns-then-limit-bytes-clause-answer : goal.returns-then-limit-bytes-clause-answer
unfolding verdict
returns-then-limit-bytes-clause-answer c = says (simp (sym c.byte_limit-limit.ensures, lt-ltb _ _ c.if-limit-bytes.true, c.refused.ensures))

pub returns-clause-answer : goal.returns-clause-answer
unfolding verdict
returns-clause-answer c = simp (sym c.byte_limit-limit.ensures, le-ltb _ _ c.if-limit-bytes.false) c.walk.ensures.answer
