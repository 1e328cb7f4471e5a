use native.Mathlib.Omega.{arith}
use Rattle.storage.proofs.BookLoading.{book-start, book-loading}
use Rattle.storage.proofs.load_book.Goals as goal

pub loop-at-init : goal.loop-at-init
loop-at-init c = book-start _ _ _ _ (λ i. omega (arith, c.type_inv.book i)) c.requires.book_value c.requires.book_len_bound.0 c.requires.book_len_bound.1 c.requires.book_len_bound.2

pub next_at-past-requires : goal.next_at-past-requires
next_at-past-requires c = search book-loading

pub word_at-requires : goal.word_at-requires
word_at-requires c = search book-loading

pub bounds-words-n : goal.bounds-words-n
bounds-words-n c = search book-loading

pub bounds-starts-k : goal.bounds-starts-k
bounds-starts-k c = search book-loading

pub bounds-book-at-else-book-at-le4 : goal.bounds-book-at-else-book-at-le4
bounds-book-at-else-book-at-le4 c = search book-loading

pub bounds-bodies-k : goal.bounds-bodies-k
bounds-bodies-k c = search book-loading

pub loop-at-preserved-then-book-at-le4 : goal.loop-at-preserved-then-book-at-le4
loop-at-preserved-then-book-at-le4 c = search book-loading

pub loop-at-preserved : goal.loop-at-preserved
loop-at-preserved c = search book-loading

pub bounds-starts-k-2 : goal.bounds-starts-k-2
bounds-starts-k-2 c = search book-loading

pub returns : goal.returns
returns c = search book-loading
