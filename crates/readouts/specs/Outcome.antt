-- What reading a text answers, and what the two lent areas hold afterwards (document 02, C-13 and C-18).
use Rattle.std.specs.Prelude.{ℕ, ◌≤◌, ◌<◌, Bool, ◌&&◌, ◌⊎◌, List, ◌++◌, length, drop, eqb, leb, Option, Some, None}
use Rattle.terms.specs.When.{◌⇒◌∣◌}
use Rattle.search.specs.Next as Next
use Rattle.format.specs.Format.{encode_book}
use Rattle.format.specs.Arities.{book_uses, OneArity}
use Rattle.grammar.specs.Syntax.{Rule}
use Rattle.grammar.specs.Names.{book, name_list}
use Rattle.grammar.specs.Reading.{Reading}
use Rattle.reading.specs.Reader as Reader
use Rattle.reading.proofs.Refusal.{Refusal}
use Rattle.readouts.specs.declared.ReadText.{ReadText}
use Rattle.readouts.specs.Place.{FormulaAt, formula_place}
use Rattle.readouts.specs.Clash.{Clashes, arities}

abbrev pub refusal : ℕ → ℕ → ReadText
refusal code place = record { code = code; place = place; book = 0; names = 0 }

abbrev pub done : ℕ → ℕ → ReadText
done b n = record { code = 0; place = 0; book = b; names = n }

-- bytes at an area's front, the rest as it was
abbrev pub filled : List ℕ → List ℕ → List ℕ
filled new before = new ++ drop (length new) before

-- A text, a book area and a names area. "40 text too long; then the one that stands first in the text, with its place, of 41 .., 42 .., 4 .., 5 ..", which `Refusal` tells; then 7, "just
-- before 43, at that formula's first byte"; "last 43, area too small for the finished book or names". A refusal leaves both areas.
pub data Reads (text books lists : List ℕ) : ReadText → List ℕ → List ℕ → Type 0 where
  refuses : {code place : ℕ} → Refusal text code place → Reads text books lists (refusal code place) books lists
  two_arities : {b : Next.Book} {list : List ℕ} {k at : ℕ} → Reading text b list → Clashes (book_uses b) k → FormulaAt text k at → Reads text books lists (refusal 7 at) books lists
  no_room : {b : Next.Book} {list : List ℕ} → Reading text b list → OneArity (book_uses b) → (length books < length (encode_book b)) ⊎ (length lists < length list) →
      Reads text books lists (refusal 43 0) books lists
  reads : {b : Next.Book} {list : List ℕ} → Reading text b list → OneArity (book_uses b) → length (encode_book b) ≤ length books → length list ≤ length lists →
      Reads text books lists (done (length (encode_book b)) (length list)) (filled (encode_book b) books) (filled list lists)

-- The same, computed

module _ (text books lists : List ℕ) where
  -- both fit into their areas
  abbrev pub room : List Rule → Bool
  room cs = leb (length (encode_book (book cs))) (length books) && leb (length (name_list cs)) (length lists)

  abbrev pub judged : List Rule → Option ℕ → ReadText
  judged cs (Some k) = refusal 7 (formula_place text k)
  judged cs None = room cs ⇒ done (length (encode_book (book cs))) (length (name_list cs)) ∣ refusal 43 0

  abbrev pub answered : Reader.Outcome → ReadText
  answered (Reader.refused code place) = refusal code place
  answered (Reader.read cs) = judged cs (arities (book_uses (book cs)))

  unfoldable pub read_answer : ReadText
  read_answer = answered (Reader.reading text)

  -- what is read is written where the code is 0
  abbrev pub left : (List Rule → List ℕ) → List ℕ → Reader.Outcome → List ℕ
  left new before (Reader.refused code place) = before
  left new before (Reader.read cs) = eqb (judged cs (arities (book_uses (book cs)))).code 0 ⇒ filled (new cs) before ∣ before

  unfoldable pub read_book : List ℕ
  read_book = left (λ cs. encode_book (book cs)) books (Reader.reading text)

  unfoldable pub names_read : List ℕ
  names_read = left name_list lists (Reader.reading text)
