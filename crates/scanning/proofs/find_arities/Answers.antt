use Prim.Native.Nat.{ℕ}
use mathlib.Core.Path.{sym as inv, ap₂, ◌∙◌}
use mathlib.Core.List.{List}
use lib.ListN.{length-replicate}
use Rattle.format.specs.Arities.{Use, Memory}
use Rattle.format.specs.ArityLaws.{book-uses}
use Rattle.format.specs.Decode.{book_of}
use Rattle.readouts.specs.Clash.{arities_from}
use Rattle.records.proofs.Tables.{zeros-met}
use Rattle.scanning.proofs.Books.{book-meets, book-range}
use Rattle.scanning.proofs.find_arities.Goals as goal

pub find_clash-requires : goal.find_clash-requires
find_clash-requires c = (book-meets _ c.requires.0 c.requires.1, length-replicate {A = ℕ} 65536 0)

pub returns : goal.returns
returns c = c.find_clash.ensures.counts _ (inv c.requires.1) (book-range _ c.requires.0 c.requires.1) ∙ ap₂ (λ (m : Memory) (us : List Use). arities_from m 0 us) (zeros-met 65536) (book-uses (book_of c.args.image.now))
