-- What is held when a text is read to its end.
use Rattle.std.specs.Prelude.{ℕ, ◌+◌, ◌≤◌, ◌≡◌, List, ◌++◌, length, Result, None}
use Rattle.format.specs.Format.{encode_book}
use Rattle.format.specs.Arities.{book_uses}
use Rattle.grammar.specs.Syntax.{Rule}
use Rattle.grammar.specs.Names.{book, name_list}
use Rattle.reading.specs.Reader as Reader
use Rattle.pieces.specs.declared.Refusal.{Refusal}
use Rattle.symbols.specs.Sections.{part}
use Rattle.drafts.specs.declared.Draft.{Draft}
use Rattle.listing.specs.Lists.{heard, noted, sizes, Within}
use Rattle.reader.specs.Walking.{Ends}
use Rattle.readouts.specs.Clash.{arities}

-- the pass has ended so
pub record Came (text out starts lens : List ℕ) (e : Result Draft Refusal) : Type 0 where
  pub opens : List ℕ
  pub heads : List ℕ
  pub nexts : List ℕ
  pub ends : Ends text out opens starts lens heads nexts e
  pub short : length text ≤ 65536

-- names of each sort stand in the sections of the table
pub record Named (text starts lens : List ℕ) (b : Draft) : Type 0 where
  pub constants_few : b.constants ≤ 11264
  pub compounds_few : b.compounds ≤ 8448
  pub predicates_few : b.predicates ≤ 8448
  pub starts_long : 28160 ≤ length starts
  pub lens_long : 28160 ≤ length lens
  pub constants : Within text (part 0 b.constants starts) (part 0 b.constants lens)
  pub compounds : Within text (part 11264 b.compounds starts) (part 11264 b.compounds lens)
  pub predicates : Within text (part 19712 b.predicates starts) (part 19712 b.predicates lens)

-- the name list, section by section
abbrev pub list_bytes : List ℕ → List ℕ → List ℕ → Draft → List ℕ
list_bytes text starts lens b =
    noted 2 0 (heard text (part 0 b.constants starts) (part 0 b.constants lens))
    ++ (noted 3 0 (heard text (part 11264 b.compounds starts) (part 11264 b.compounds lens))
    ++ noted 4 0 (heard text (part 19712 b.predicates starts) (part 19712 b.predicates lens)))

abbrev pub list_size : List ℕ → Draft → ℕ
list_size lens b = sizes (part 0 b.constants lens) + (sizes (part 11264 b.compounds lens) + sizes (part 19712 b.predicates lens))

-- the text is read, and these are its book's bytes and its names
pub record Finished (text starts lens image : List ℕ) (b : Draft) : Type 0 where
  pub rules : List Rule
  pub reads : Reader.reading text ≡ Reader.read rules
  pub image_is : image ≡ encode_book (book rules)
  pub named : Named text starts lens b
  pub list_is : list_bytes text starts lens b ≡ name_list rules
  pub short : length text ≤ 65536

-- and its predicate numbers keep one arity
pub record KeptOne (text starts lens image : List ℕ) (b : Draft) : Type 0 where
  pub finished : Finished text starts lens image b
  pub one : arities (book_uses (book finished.rules)) ≡ None
