-- The nodes of a goal, behind the records of a book.
use Rattle.std.specs.Prelude.{Option, None}
use Prim.Native.Nat.{ℕ}
use mathlib.Core.Path.{◌≡◌, sym as inv, ap₂, ◌∙◌}
use mathlib.Core.List.{List}
use native.Mathlib.Omega.{arith}
use Rattle.search.specs.Next as Next
use Rattle.words.specs.Flat.{flat}
use Rattle.format.specs.declared.Record.{Record}
use Rattle.format.specs.Format.{Bytes, GoodBook, encode, encode_book, node_records, book_records}
use Rattle.format.specs.Reading.{book_verdict}
use Rattle.format.specs.Decode.{book_of}
use Rattle.format.specs.Arities.{Use, uses_of, book_uses, Memory, nothing_met, recall, recalled}
use Rattle.format.specs.ArityLaws.{book-uses, goal-uses}
use Rattle.format.proofs.Decoding.{book_of-good, book_of-one}
use Rattle.readouts.specs.Clash.{arities_from}
use Rattle.readouts.proofs.ClashLaws.{arities-only}
use Rattle.scanning.specs.Meeting.{MeetsAll, Met}
use Rattle.scanning.proofs.Books as Books
use Rattle.scanning.proofs.Books.{goal-range, book-range}
use Rattle.clashing.specs.Meeting.{Nodes, Kept}

pub nodes-meet : (nodes : List ℕ) → Nodes nodes → MeetsAll nodes
nodes-meet nodes x = record { records = node_records (flat x.goal); is = x.is; ranged = goal-range x.goal x.good; short = omega (arith, x.short) }

module _ (book : List ℕ) (bytes : Bytes book) (h : (book_verdict book).code ≡ 0) where
  abbrev rs : List Record
  rs = book_records (book_of book)

  good : GoodBook (book_of book)
  good = (book_of-good book bytes h).0

  book_is : encode_book (book_of book) ≡ book
  book_is = (book_of-good book bytes h).1

  pub book-meets : MeetsAll book
  book-meets = Books.book-meets book good book_is

  pub both-kept : (nodes table₀ table₁ table₂ : List ℕ) (q r : Option ℕ) → recalled table₀ ≡ nothing_met → Met book table₀ table₁ q → Met nodes table₁ table₂ r → Kept book nodes r
  both-kept nodes table₀ table₁ table₂ q r z a b =
      let range = book-range book good book_is in
      let u : arities_from (recalled table₀) 0 (uses_of rs) ≡ None =
      ap₂ (λ (m : Memory) (us : List Use). arities_from m 0 us) z (book-uses (book_of book)) ∙ arities-only (book_uses (book_of book)) None (book_of-one book bytes h) in
      let v : recalled table₁ ≡ recall nothing_met (book_uses (book_of book)) =
      a.remembers rs (inv book_is) range (a.counts rs (inv book_is) range ∙ u) ∙ ap₂ (λ (m : Memory) (us : List Use). recall m us) z (book-uses (book_of book)) in
      record { is = λ g good e. b.counts (node_records (flat g)) e (goal-range g good) ∙ ap₂ (λ (m : Memory) (us : List Use). arities_from m 0 us) v (goal-uses g) }
