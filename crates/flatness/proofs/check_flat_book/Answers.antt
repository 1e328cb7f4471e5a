use native.Mathlib.Omega.{arith}
use Rattle.flatness.proofs.Flattened.{image_of, counted_is, uncounted-is}
use Rattle.flatness.proofs.check_flat_book.Goals as goal

pub count-requires : goal.count-requires
count-requires c = image_of _ (λ i. omega (arith, c.type_inv.book i)) _ c.book_flat-found.ensures c.if-found-eq0.true

pub count-requires-then-found-eq0 : goal.count-requires-then-found-eq0
count-requires-then-found-eq0 c = image_of _ (λ i. omega (arith, c.type_inv.book i)) _ c.book_flat-found.ensures c.if-found-eq0.true

pub returns-then-found-eq0 : goal.returns-then-found-eq0
returns-then-found-eq0 c = counted_is _ (λ i. omega (arith, c.type_inv.book i)) _ c.book_flat-found.ensures c.if-found-eq0.true _ _ c.count.ensures c.count-then-found-eq0.ensures

pub returns : goal.returns
returns c = uncounted-is _ _ c.book_flat-found.ensures c.if-found-eq0.false
