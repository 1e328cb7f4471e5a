use Rattle.std.proofs.Common.{arith}
use Rattle.areas.specs.Rooms.{book-short}
use Rattle.picker.proofs.from_good.Goals as goal

pub with_words-requires-2 : goal.with_words-requires-2
with_words-requires-2 c = record { good = c.requires; book_len_bound = (book-short _ (λ i. omega (arith, c.type_inv.book i)) c.requires.book_good, omega arith) }
