-- How big the figures of reading a query are; the parts of its number are theirs (ReadFigures: `read-parts`, `number_read`).
use Rattle.std.specs.Prelude.{ℕ, ◌≤◌, ◌<◌, ◌≡◌, ◌⊎◌, List}
use Rattle.std.proofs.Common.{inl, inr, arith}
use Rattle.format.specs.Format.{Bytes}
use Rattle.format.specs.Reading.{book_verdict}
use Rattle.format.proofs.Codes.{Coded, book-coded}
use Rattle.areas.proofs.Places.{book-place}
use Rattle.questions.specs.declared.ReadQuery.{ReadQuery}
use Rattle.questions.specs.Outcome.{outcome}
use Rattle.questions.proofs.Codes.{TextCode, code_14, code_15, code_40, code_41, code_42, Listed, taken, of_book, of_list, of_text, two, full, query-listed, query-small}
use Rattle.textnumbers.specs.Numbers.{ReadNarrow, as_text}

text-low : {code : ℕ} → TextCode code → code < 256
text-low code_14 = omega arith
text-low code_15 = omega arith
text-low code_40 = omega arith
text-low code_41 = omega arith
text-low code_42 = omega arith

book-low : (code : ℕ) → Coded 2 code → code < 256
book-low code (inl z) = omega arith
book-low code (inr k) = omega (arith, k.1)

code-low : {book : List ℕ} {code : ℕ} → Listed book code → code < 256
code-low taken = omega arith
code-low {book} (of_book n) = book-low (book_verdict book).code (book-coded book)
code-low of_list = omega arith
code-low (of_text t) = text-low t
code-low two = omega arith
code-low full = omega arith

module _ (text book names query list : List ℕ) (book-bytes : Bytes book) (names-bytes : Bytes names) where
  abbrev r : ReadQuery
  r = outcome text book names query list

  place-low : (r.place ≡ (book_verdict book).place) ⊎ (r.place ≤ 65536) → r.place < 16777216
  place-low (inl e) = omega (arith, e, book-place book)
  place-low (inr l) = omega (arith, l)

  pub query-narrow : ReadNarrow (as_text r)
  query-narrow =
      let s = query-small text book names query list book-bytes names-bytes in
      record { code = code-low (query-listed text book names query list book-bytes names-bytes); place = place-low s.place; book = omega (arith, s.query) }
