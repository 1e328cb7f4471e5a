use Rattle.answers.proofs.Clearing.{long_same}
use Rattle.answers.proofs.check_answer.Goals as goal

pub returns-then-answer-gt16387 : goal.returns-then-answer-gt16387
returns-then-answer-gt16387 c = long_same _ _ _ c.if-answer-gt16387.true c.check_query.ensures
