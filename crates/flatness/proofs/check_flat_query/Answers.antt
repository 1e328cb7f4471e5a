use native.Mathlib.Omega.{arith}
use Rattle.flatness.proofs.Flattened.{by-book, by-query, query-within}
use Rattle.flatness.proofs.check_flat_query.Goals as goal

pub flat_of-requires : goal.flat_of-requires
flat_of-requires c = query-within _ _ (λ i. omega (arith, c.type_inv.book i)) _ c.book_flat-found.ensures c.if-found-eq0.true _ c.check_query.ensures

pub returns-then-found-eq0 : goal.returns-then-found-eq0
returns-then-found-eq0 c = by-query _ _ (λ i. omega (arith, c.type_inv.book i)) _ c.book_flat-found.ensures c.if-found-eq0.true _ _ c.check_query.ensures c.flat_of.ensures

pub returns : goal.returns
returns c = by-book _ _ _ c.book_flat-found.ensures c.if-found-eq0.false
