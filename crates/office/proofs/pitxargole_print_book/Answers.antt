-- `office::pitxargole_print_book` meets its contract. Assumes nothing.
use Rattle.textnumbers.specs.Figures.{book-narrow}
use Rattle.office.proofs.pitxargole_print_book.Goals as goal

pub text_number-requires : goal.text_number-requires
text_number-requires c = rw c.print_book.ensures.answer (book-narrow c.args.book.now c.args.names.now c.args.area.now)
