-- `profile::firmware::pitxargole_flat_book` meets its contract. Assumes nothing.
use Rattle.std.proofs.Common.{arith}
use Rattle.flatly.specs.Numbers.{book-narrow}
use Rattle.profile.proofs.firmware.pitxargole_flat_book.Goals as goal

pub book_number-requires : goal.book_number-requires
book_number-requires c = rw c.check_flat_book.ensures (book-narrow _ (λ i. omega (arith, c.type_inv.book i)))
