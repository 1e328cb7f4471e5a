-- `office::pitxargole_read_text` meets its contract. Assumes nothing.
use Rattle.textnumbers.specs.ReadFigures.{read-narrow}
use Rattle.office.proofs.pitxargole_read_text.Goals as goal

pub read_number-requires : goal.read_number-requires
read_number-requires c = rw c.read_text.ensures.answer (read-narrow c.args.text.now c.args.book.now c.args.names.now)
