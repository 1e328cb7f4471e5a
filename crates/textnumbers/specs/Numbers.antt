-- The numbers for C of what was printed and of what was read. Of printing: "outcome in the lowest eight bits; the next 24 bits hold the place" of a refusal, and the text's bytes otherwise; there are no steps. Of reading: the place of a refusal, and the book's bytes otherwise;
-- in the highest 32 bits the names' bytes. Of a query that is read it is the same, with the query's bytes in the place of the book's.
use Rattle.std.specs.Prelude.{ℕ, ◌+◌, ◌*◌, ◌^◌, ◌<◌, eqb}
use Rattle.terms.specs.When.{◌⇒◌∣◌}
use Rattle.printouts.specs.declared.Printout.{Printout}
use Rattle.readouts.specs.declared.ReadText.{ReadText}
use Rattle.questions.specs.declared.ReadQuery.{ReadQuery}

abbrev pub text_field : Printout → ℕ
text_field p = eqb p.code 0 ⇒ p.bytes ∣ p.place

abbrev pub text_number : Printout → ℕ
text_number p = p.code + 256 * text_field p

-- there is room for each part
pub record TextNarrow (p : Printout) : Type 0 where
  pub code : p.code < 256
  pub place : p.place < 2 ^ 24
  pub bytes : p.bytes < 2 ^ 24

abbrev pub read_field : ReadText → ℕ
read_field r = eqb r.code 0 ⇒ r.book ∣ r.place

abbrev pub read_number : ReadText → ℕ
read_number r = r.code + 256 * read_field r + 2 ^ 32 * r.names

pub record ReadNarrow (r : ReadText) : Type 0 where
  pub code : r.code < 256
  pub place : r.place < 2 ^ 24
  pub book : r.book < 2 ^ 24

abbrev pub as_text : ReadQuery → ReadText
as_text r = record { code = r.code; place = r.place; book = r.query; names = r.names }

abbrev pub query_number : ReadQuery → ℕ
query_number r = read_number (as_text r)
