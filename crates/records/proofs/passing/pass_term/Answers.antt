use Rattle.records.proofs.Passed.{passed}
use Rattle.records.proofs.passing.pass_term.Goals as goal

pub returns-in-2-clause-passes : goal.returns-in-2-clause-passes
returns-in-2-clause-passes c m form e few = search passed
