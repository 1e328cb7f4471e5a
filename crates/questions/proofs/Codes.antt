-- The codes that reading a query's text answers with, and how large its figures are.
use Rattle.std.specs.Prelude.{ℕ, ◌+◌, ◌≤◌, ◌≡◌, refl, ◌⊎◌, List, ◌++◌, length}
use Rattle.std.proofs.Common.{ap, inl, inr, arith, length-append}
use Rattle.format.specs.Reading.{book_verdict}
use Rattle.format.specs.Format.{Bytes}
use Rattle.format.proofs.Longest.{good-short}
use Rattle.grammar.specs.Token.{Token, bytes, spelling}
use Rattle.grammar.specs.GoodLaws.{query_good}
use Rattle.asking.proofs.Unexpected.{Unexpected, too_early, no_further}
use Rattle.asking.proofs.Refusal.{StandsAt, Fault, unexpected_byte, longest_name, out_of_range, nodes_passed, Refusal, long_text, first_fault}
use Rattle.questions.specs.declared.ReadQuery.{ReadQuery}
use Rattle.questions.proofs.Place.{FormulaAt}
use Rattle.questions.specs.Outcome.{outcome}
use Rattle.questions.proofs.OutcomeLaws.{Reads, not_good, no_list, bad_text, two_arities, no_room, reads, outcome-reads}

-- of the text
pub data TextCode : ℕ → Type 0 where
  code_14 : TextCode 14
  code_15 : TextCode 15
  code_40 : TextCode 40
  code_41 : TextCode 41
  code_42 : TextCode 42

fault-coded : {text : List ℕ} {c i : ℕ} → Fault text c i → TextCode c
fault-coded (unexpected_byte u) = code_41
fault-coded (longest_name s l) = code_42
fault-coded (out_of_range s b h) = code_14
fault-coded (nodes_passed s b h) = code_15

pub refusal-coded : {text : List ℕ} {c i : ℕ} → Refusal text c i → TextCode c
refusal-coded (long_text h) = code_40
refusal-coded (first_fault l f) = fault-coded f.there

-- of all
pub data Listed (book : List ℕ) : ℕ → Type 0 where
  taken : Listed book 0
  of_book : ((book_verdict book).code ≡ 0 → ⊥) → Listed book (book_verdict book).code
  of_list : Listed book 45
  of_text : {c : ℕ} → TextCode c → Listed book c
  two : Listed book 17
  full : Listed book 43

coded : {text book names query list : List ℕ} {r : ReadQuery} {q l : List ℕ} → Reads text book names query list r q l → Listed book r.code
coded (not_good n) = of_book n
coded (no_list h n) = of_list
coded (bad_text h v r) = of_text (refusal-coded r)
coded (two_arities h v a c f) = two
coded (no_room h v a s m) = full
coded (reads h v a s m n) = taken

-- A place in the text or at its end

stands-low : {text : List ℕ} {at : ℕ} {ts : List Token} {t : Token} → StandsAt text at ts t → at + length (spelling t) ≤ length text
stands-low {t = t} s = omega (arith, s.place, ap length s.whole, length-append (bytes s.pieces) (spelling t ++ s.rest), length-append (spelling t) s.rest)

unexpected-low : {text : List ℕ} {i : ℕ} → Unexpected text i → i ≤ length text
unexpected-low (too_early e v d) = omega arith
unexpected-low (no_further l v d) = omega arith

fault-low : {text : List ℕ} {c i : ℕ} → Fault text c i → i ≤ length text
fault-low (unexpected_byte u) = unexpected-low u
fault-low (longest_name s l) = omega (arith, stands-low s)
fault-low (out_of_range s b h) = omega (arith, stands-low s)
fault-low (nodes_passed s b h) = omega (arith, stands-low s)

refusal-low : {text : List ℕ} {c i : ℕ} → Refusal text c i → i ≤ 65536
refusal-low (long_text h) = omega arith
refusal-low (first_fault l f) = omega (arith, fault-low f.there)

formula-low : {text : List ℕ} {k at : ℕ} → FormulaAt text k at → at ≤ length text
formula-low f = omega (arith, f.place, ap length f.whole, length-append (bytes f.pieces) (f.symbol ++ f.rest))

-- the place of a refusal that is not the book's, and the bytes of a query
pub record Small (book : List ℕ) (r : ReadQuery) : Type 0 where
  pub place : (r.place ≡ (book_verdict book).place) ⊎ (r.place ≤ 65536)
  pub query : r.query ≤ 16386

small : {text book names query list : List ℕ} {r : ReadQuery} {q l : List ℕ} → Reads text book names query list r q l → Small book r
small (not_good n) = record { place = inl refl; query = omega arith }
small (no_list h n) = record { place = inr (omega arith); query = omega arith }
small (bad_text h v r) = record { place = inr (refusal-low r); query = omega arith }
small (two_arities h v a c f) = record { place = inr (omega (arith, formula-low f, a.short)); query = omega arith }
small (no_room h v a s m) = record { place = inr (omega arith); query = omega arith }
small (reads {g} {fs} h v a s m n) = record { place = inr (omega arith); query = good-short _ (query_good g fs a.sized v.good.few) }

module _ (text book names query list : List ℕ) (book-bytes : Bytes book) (names-bytes : Bytes names) where
  pub query-listed : Listed book (outcome text book names query list).code
  query-listed = coded (outcome-reads text book names query list book-bytes names-bytes)

  pub query-small : Small book (outcome text book names query list)
  query-small = small (outcome-reads text book names query list book-bytes names-bytes)
