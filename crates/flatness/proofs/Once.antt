-- For each entry: no two outcomes satisfy its contract.
use Rattle.std.specs.Prelude.{◌≡◌, List, ℕ}
use Rattle.std.proofs.Common.{sym, ◌∙◌}
use Rattle.format.specs.declared.Check.{Check}
use Rattle.flatness.specs.declared.FlatBook.{FlatBook}
use Rattle.flatness.specs.Profile.{flat_book_of, query_flat}

pub check-flat-book_once : (book : List ℕ) (r r' : FlatBook) → r ≡ flat_book_of book → r' ≡ flat_book_of book → r ≡ r'
check-flat-book_once book r r' p q = p ∙ sym q

pub check-flat-query_once : (book query : List ℕ) (r r' : Check) → r ≡ query_flat book query → r' ≡ query_flat book query → r ≡ r'
check-flat-query_once book query r r' p q = p ∙ sym q
