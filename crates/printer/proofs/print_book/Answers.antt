use native.Mathlib.Omega.{arith}
use Rattle.printer.proofs.Printing.{book_image, book-printed, book-refused}
use Rattle.printer.proofs.print_book.Goals as goal

pub print_image-requires : goal.print_image-requires
print_image-requires c = book_image _ (λ i. omega (arith, c.shared_slice_known-1.given i)) _ c.check_book-found.ensures c.if-found-eq0.true

pub returns-then-found-eq0 : goal.returns-then-found-eq0
returns-then-found-eq0 c = record { answer = (book-printed _ (λ i. omega (arith, c.shared_slice_known-1.given i)) _ c.check_book-found.ensures c.if-found-eq0.true _ _ _ _ c.print_image.ensures).0; text = (book-printed _ (λ i. omega (arith, c.shared_slice_known-1.given i)) _ c.check_book-found.ensures c.if-found-eq0.true _ _ _ _ c.print_image.ensures).1 }

pub returns : goal.returns
returns c = record { answer = (book-refused _ _ _ _ _ c.check_book-found.ensures c.if-found-eq0.false c.refusal.ensures).0; text = (book-refused _ _ _ _ _ c.check_book-found.ensures c.if-found-eq0.false c.refusal.ensures).1 }
