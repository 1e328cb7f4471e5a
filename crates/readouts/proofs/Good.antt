-- A book that is read is good, and its names are a name list; and the codes and places of refusals.
use Rattle.std.specs.Prelude.{ℕ, ◌+◌, ◌≤◌, ◌<◌, ◌≡◌, List, ◌++◌, length, take, drop}
use Rattle.std.proofs.Common.{sym as inv, ap, ◌∙◌, subst, arith, length-append}
use Rattle.std.proofs.Math.Seq.{take-append_seam}
use Rattle.search.specs.Next as Next
use Rattle.format.specs.Format.{encode_book}
use Rattle.format.specs.Reading.{book_verdict}
use Rattle.format.specs.Arities.{book_uses, OneArity}
use Rattle.format.proofs.Meaning.{good}
use Rattle.grammar.specs.Token.{Token, name, variable, opening, closing, comma, arrow, stop, bytes}
use Rattle.grammar.specs.FrontLaws.{Half}
use Rattle.grammar.specs.Names.{names}
use Rattle.grammar.specs.Reading.{Reading}
use Rattle.grammar.specs.GoodLaws.{reading-checked}
use Rattle.reading.specs.Part.{State}
use Rattle.reading.proofs.Refusal.{Before, Refusal, long_text, unexpected_byte, unexpected_second, longest_name, out_of_range, size_passed, long_book}
use Rattle.namelist.specs.List.{IsList}
use Rattle.namelist.specs.Table.{table_entries}
use Rattle.printouts.proofs.Again.{read-list}
use Rattle.readouts.specs.declared.ReadText.{ReadText}
use Rattle.readouts.specs.Place.{FormulaAt}
use Rattle.readouts.specs.Outcome.{Reads, refuses, two_arities, no_room, reads, read_answer, read_book, names_read}
use Rattle.readouts.proofs.OutcomeLaws.{outcome-reads}

-- Code 0: the book's image and the name list stand at the fronts of their areas.

pub record Out (text : List ℕ) (p : ReadText) (c l : List ℕ) : Type 0 where
  pub book : Next.Book
  pub list : List ℕ
  pub reading : Reading text book list
  pub one_arity : OneArity (book_uses book)
  pub image : take p.book c ≡ encode_book book
  pub names_are : take p.names l ≡ list

half-long : (t : Token) (left : List ℕ) → Half t left → 0 < length left
half-long (name w) left h = absurd h
half-long (variable w) left h = absurd h
half-long opening left h = absurd h
half-long closing left h = absurd h
half-long comma left h = absurd h
half-long arrow left h = omega (arith, ap length h.1)
half-long stop left h = omega (arith, ap length h.1)

before-low : {text : List ℕ} {at : ℕ} {s : State} (b : Before text at s) → at + length b.left ≡ length text
before-low b = omega (arith, b.place, ap length b.whole, length-append (bytes b.pieces) b.left)

-- each refusal has one of these codes, and a place in the text or at its end
pub data Code : ℕ → Type 0 where
  code_4 : Code 4
  code_5 : Code 5
  code_40 : Code 40
  code_41 : Code 41
  code_42 : Code 42

pub refusal-coded : {text : List ℕ} {code place : ℕ} → Refusal text code place → Code code
refusal-coded (long_text h) = code_40
refusal-coded (unexpected_byte b u) = code_41
refusal-coded (unexpected_second t b h n u) = code_41
refusal-coded (longest_name r m p h) = code_42
refusal-coded (out_of_range r b h) = code_4
refusal-coded (size_passed r b h p) = code_5
refusal-coded (long_book cs s w m f h) = code_5

pub code-low : {code : ℕ} → Code code → code < 256
code-low code_4 = omega arith
code-low code_5 = omega arith
code-low code_40 = omega arith
code-low code_41 = omega arith
code-low code_42 = omega arith

pub refusal-low : {text : List ℕ} {code place : ℕ} → Refusal text code place → place ≤ length text
refusal-low (long_text h) = omega arith
refusal-low (unexpected_byte b u) = omega (arith, before-low b)
refusal-low (unexpected_second t b h n u) = omega (arith, before-low b, half-long t b.left h)
refusal-low (longest_name {w = w} r m p h) = omega (arith, before-low r.before, ap length r.token_there, length-append w r.rest, h)
refusal-low (out_of_range r b h) = omega (arith, before-low r.before)
refusal-low (size_passed r b h p) = omega (arith, before-low r.before)
refusal-low (long_book cs s w m f h) = omega arith

pub formula-low : {text : List ℕ} {k at : ℕ} → FormulaAt text k at → at ≤ length text
formula-low f = omega (arith, f.place, ap length f.whole, length-append (bytes f.pieces) (f.symbol ++ f.rest))

-- The codes of an outcome

pub data Listed : ℕ → Type 0 where
  taken : Listed 0
  refused : {c : ℕ} → Code c → Listed c
  two : Listed 7
  full : Listed 43

coded : {text books lists : List ℕ} {p : ReadText} {c l : List ℕ} → Reads text books lists p c l → Listed p.code
coded (refuses f) = refused (refusal-coded f)
coded (two_arities r d f) = two
coded (no_room r o h) = full
coded (reads r o h k) = taken

zero-code : {c : ℕ} → Code c → c ≡ 0 → ⊥
zero-code code_4 z = omega arith
zero-code code_5 z = omega arith
zero-code code_40 z = omega arith
zero-code code_41 z = omega arith
zero-code code_42 z = omega arith

out : {text books lists : List ℕ} {p : ReadText} {c l : List ℕ} → Reads text books lists p c l → p.code ≡ 0 → Out text p c l
out (refuses f) z = absurd (zero-code (refusal-coded f) z)
out (two_arities r d f) z = absurd (omega (arith, z))
out (no_room r o h) z = absurd (omega (arith, z))
out {books = books} {lists = lists} (reads {b} {list} r o h k) z =
    record {
      book = b;
      list = list;
      reading = r;
      one_arity = o;
      image = take-append_seam (encode_book b) (drop (length (encode_book b)) books);
      names_are = take-append_seam list (drop (length list) lists);
    }

module _ (text books lists : List ℕ) where
  pub read-listed : Listed (read_answer text books lists).code
  read-listed = coded (outcome-reads text books lists)

  module _ (zero-code : (read_answer text books lists).code ≡ 0) where
    pub read_out : Out text (read_answer text books lists) (read_book text books lists) (names_read text books lists)
    read_out = out (outcome-reads text books lists) zero-code

    -- a book that is read is good
    pub read-checked : book_verdict (take (read_answer text books lists).book (read_book text books lists)) ≡ good (length read_out.book)
    read-checked = ap book_verdict read_out.image ∙ reading-checked read_out.reading read_out.one_arity

    -- and its names are in C-13's form
    pub read_names : IsList (take (read_answer text books lists).names (names_read text books lists)) (table_entries (names read_out.reading.rules))
    read_names = subst (λ (s : List ℕ). IsList s (table_entries (names read_out.reading.rules))) (inv read_out.names_are) (read-list text read_out.list read_out.book read_out.reading)
