-- `office::pitxargole_print_answer` meets its contract. Assumes nothing.
use Rattle.textnumbers.specs.Figures.{answer-narrow}
use Rattle.office.proofs.pitxargole_print_answer.Goals as goal

pub text_number-requires : goal.text_number-requires
text_number-requires c = rw c.print_answer.ensures.answer (answer-narrow c.args.book.now c.args.answer.now c.args.names.now c.args.area.now)
