use Rattle.printer.proofs.Walks.{iteming}
use Rattle.printer.proofs.writing.put_record.Goals as goal

pub returns-in-Variable : goal.returns-in-Variable
returns-in-Variable c = λ l h. search iteming

pub returns-in-Goal : goal.returns-in-Goal
returns-in-Goal c = λ l h. search iteming
