-- For each check: no two outcomes satisfy its contract.
use Rattle.std.specs.Prelude.{ℕ, ◌≡◌, List}
use Rattle.std.proofs.Common.{sym, ◌∙◌}
use Rattle.format.specs.declared.Check.{Check}
use Rattle.format.specs.Reading.{book_verdict, query_verdict}

pub check-book_once : (book : List ℕ) (r r' : Check) → r ≡ book_verdict book → r' ≡ book_verdict book → r ≡ r'
check-book_once book r r' p q = p ∙ sym q

pub check-query_once : (book query : List ℕ) (r r' : Check) → r ≡ query_verdict book query → r' ≡ query_verdict book query → r ≡ r'
check-query_once book query r r' p q = p ∙ sym q
