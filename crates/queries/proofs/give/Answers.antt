use Rattle.queries.proofs.Finishing.{sizes-here, short-list, no-room-query, no-room-list, image-low, listable, given}
use mathlib.Core.Path.{refl}
use native.Mathlib.Omega.{arith}
use Rattle.queries.proofs.give.Goals as goal

pub list_size-size-requires : goal.list_size-size-requires
list_size-size-requires c = (sizes-here _ _ _ _ _ (λ i. omega (arith, c.type_inv.names i)) _ _ c.requires.finished, short-list _ _ _ _ _ (λ i. omega (arith, c.type_inv.names i)) _ _ c.requires.finished)

pub returns-then-query-bytes : goal.returns-then-query-bytes
returns-then-query-bytes c = λ book f. no-room-query _ _ _ _ _ (λ i. omega (arith, c.type_inv.names i)) _ _ f _ _ _ c.if-query-bytes.true c.refusal.ensures

pub returns-then-list-size : goal.returns-then-list-size
returns-then-list-size c = λ book f. no-room-list _ _ _ _ _ (λ i. omega (arith, c.type_inv.names i)) _ _ f _ c.list_size-size.ensures.0 _ _ _ c.if-list-size.true c.refusal-then-list-size.ensures

pub put_list-requires : goal.put_list-requires
put_list-requires c = listable _ _ _ _ _ (λ i. omega (arith, c.type_inv.names i)) _ _ c.requires.finished _ c.list_size-size.ensures.0 _ c.if-list-size.false c.list_size-size.ensures.1

pub overflow_cast-result : goal.overflow_cast-result
overflow_cast-result c = record { fits = omega (arith, image-low _ _ _ _ _ (λ i. omega (arith, c.type_inv.names i)) _ _ c.requires.finished) }

pub returns : goal.returns
returns c = λ book f. given _ _ _ _ _ (λ i. omega (arith, c.type_inv.names i)) _ _ f _ c.list_size-size.ensures.0 _ _ _ _ _ _ c.if-query-bytes.false c.if-list-size.false c.put_query.ensures c.put_list.ensures refl
