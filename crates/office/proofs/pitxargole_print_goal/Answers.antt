-- `office::pitxargole_print_goal` meets its contract. Assumes nothing.
use Rattle.textnumbers.specs.Figures.{goal-narrow}
use Rattle.office.proofs.pitxargole_print_goal.Goals as goal

pub text_number-requires : goal.text_number-requires
text_number-requires c = rw c.print_goal.ensures.answer (goal-narrow c.args.book.now c.args.goal.now c.args.names.now c.args.area.now)
