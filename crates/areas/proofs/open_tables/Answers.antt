use native.Mathlib.Omega.{arith}
use Rattle.format.specs.Format.{Bytes}
use Rattle.areas.proofs.Books.{book-stored, book-few, book-opened, starts-inside, still_shelved, opening}
use Rattle.areas.proofs.open_tables.Goals as goal

pub place_heads-requires-clause-stored : goal.place_heads-requires-clause-stored
place_heads-requires-clause-stored c = book-stored _ (λ i. omega (arith, c.type_inv.book i)) c.requires.book_value c.load_book-clauses.ensures

pub place_heads-requires-clause-clauses_in_bounds : goal.place_heads-requires-clause-clauses_in_bounds
place_heads-requires-clause-clauses_in_bounds c = book-few _ (λ i. omega (arith, c.type_inv.book i)) c.requires.book_value c.load_book-clauses.ensures (omega arith)

pub shelve-requires : goal.shelve-requires
shelve-requires c = (book-few _ (λ i. omega (arith, c.type_inv.book i)) c.requires.book_value c.load_book-clauses.ensures (omega arith), c.requires.rooms.shelf_room)

pub link-requires : goal.link-requires
link-requires c =
    let bytes : Bytes c.args.book.now = λ i. omega (arith, c.type_inv.book i) in
    let b = book-opened _ bytes c.requires.book_value c.load_book-clauses.ensures _ c.place_heads.ensures (omega (arith, c.load_book-clauses.auto.starts)) (omega (arith, c.place_heads.auto.heads)) (omega (arith, c.load_book-clauses.auto.bodies)) in
    (b.few, omega (arith, b.starts_length), omega (arith, b.few, c.requires.rooms.shelf_room, c.shelve.auto.shelf), starts-inside b)

pub returns : goal.returns
returns c =
    let bytes : Bytes c.args.book.now = λ i. omega (arith, c.type_inv.book i) in
    let b = book-opened _ bytes c.requires.book_value c.load_book-clauses.ensures _ c.place_heads.ensures (omega (arith, c.load_book-clauses.auto.starts)) (omega (arith, c.place_heads.auto.heads)) (omega (arith, c.load_book-clauses.auto.bodies)) in
    opening b _ (omega (arith, c.requires.rooms.shelf_room, c.shelve.auto.shelf, c.link.auto.shelf)) (still_shelved c.shelve.ensures c.link.ensures) c.link.ensures.linked
