use Rattle.flatness.proofs.Flattened.{book-within}
use Rattle.flatness.proofs.book_flat.Goals as goal

pub flat_of-requires : goal.flat_of-requires
flat_of-requires c = book-within _ _ c.check_book.ensures
