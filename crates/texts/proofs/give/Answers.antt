use native.Mathlib.Omega.{arith}
use mathlib.Core.Path.{refl}
use Rattle.texts.proofs.Finishing.{no-room-book, no-room-names, given, image-low}
use Rattle.texts.proofs.give.Goals as goal

pub returns-then-book-image : goal.returns-then-book-image
returns-then-book-image c = no-room-book _ _ _ _ _ _ _ c.requires _ c.list_size-size.ensures.0 _ c.if-book-image.true c.refused.ensures

pub returns-then-names-size : goal.returns-then-names-size
returns-then-names-size c = no-room-names _ _ _ _ _ _ _ c.requires _ c.list_size-size.ensures.0 _ c.if-names-size.true c.refused-then-names-size.ensures

pub put_list-requires : goal.put_list-requires
put_list-requires c =
    let e = c.list_size-size.ensures.0 in
    let h = c.if-names-size.false in
    (c.requires.finished.named, omega (arith, e, h))

pub overflow_cast-result : goal.overflow_cast-result
overflow_cast-result c = record { fits = omega (arith, image-low _ _ _ _ _ c.requires) }

pub overflow_cast-result-2 : goal.overflow_cast-result-2
overflow_cast-result-2 c = record { fits = omega (arith, c.list_size-size.ensures.1) }

pub returns : goal.returns
returns c = given _ _ _ _ _ _ _ c.requires _ c.list_size-size.ensures.0 _ _ _ _ _ c.if-book-image.false c.if-names-size.false c.put_bytes.ensures c.put_list.ensures refl
