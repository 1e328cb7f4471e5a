use Rattle.clashing.proofs.Goals.{nodes-meet, book-meets, both-kept}
use mathlib.Core.Path.{◌∙◌}
use native.Mathlib.Omega.{arith}
use Rattle.clashing.proofs.meet_both.Goals as goal

pub find_clash-requires : goal.find_clash-requires
find_clash-requires c = (book-meets _ (λ i. omega (arith, c.shared_slice_known-1.given i)) c.requires.book_value.0, c.requires.table_len.0)

pub find_clash-requires-2 : goal.find_clash-requires-2
find_clash-requires-2 c = (nodes-meet _ c.requires.book_value.1, c.find_clash.ensures.same ∙ c.requires.table_len.0)

pub returns : goal.returns
returns c = both-kept _ (λ i. omega (arith, c.shared_slice_known-1.given i)) c.requires.book_value.0 _ _ _ _ _ _ c.requires.table_len.1 c.find_clash.ensures c.find_clash-2.ensures
