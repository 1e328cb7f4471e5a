-- What the checks of the flat profile answer (document 02, C-20): the plain check's answer, or the first compound record that it came to.
use Rattle.std.specs.Prelude.{ℕ, zero, suc, ◌+◌, List, length, get_or, eqb, leb, ltb}
use Rattle.terms.specs.When.{◌⇒◌∣◌}
use Rattle.search.specs.Next as Next
use Rattle.format.specs.declared.Check.{Check}
use Rattle.format.specs.declared.Form.{Form}
use Rattle.format.specs.declared.Form.TheVariants.{Book, Query}
use Rattle.format.specs.Reading.{body_length, code_base, byte_limit, verdict, met}
use Rattle.format.specs.Arities.{Memory, nothing_met}
use Rattle.format.specs.Decode.{book_of}
use Rattle.flatness.specs.declared.FlatBook.{FlatBook}
use Rattle.flatness.specs.Counts.{book_predicates, book_constants}

-- the first place of a compound record from a place on and below `end`, k records at most; `end` where there is none
unfoldable pub compound_from : ℕ → List ℕ → ℕ → ℕ → ℕ
compound_from zero s at end = end
compound_from (suc k) s at end =
    leb end at ⇒ end
    ∣ eqb (get_or s at 0) 3 ⇒ at
    ∣ compound_from k s (at + 1 + body_length (get_or s at 0)) end

-- how far the kinds of records were allowed: in a good input to its end, at code 2 or 12 up to the fault, and at any other code past the kind of the record at fault
abbrev pub allowed_up_to : ℕ → Check → ℕ → ℕ
allowed_up_to base plain size = eqb plain.code 0 ⇒ size ∣ eqb plain.code (base + 2) ⇒ plain.place ∣ plain.place + 1

-- "Codes 1 to 19 refuse the input .. and give .. every count 0."
abbrev pub compound_at : ℕ → ℕ → Check
compound_at base place = record { code = base + 8; place = place; count = 0 }

abbrev pub unless_before : ℕ → Check → ℕ → ℕ → Check
unless_before base plain end place = ltb place end ⇒ compound_at base place ∣ plain

-- the plain check's answer to s, made flat; an input over its limit is refused "before any record is read"
unfoldable pub flat_check_of : ℕ → ℕ → Check → List ℕ → Check
flat_check_of base limit plain s =
    ltb limit (length s) ⇒ plain
    ∣ unless_before base plain (allowed_up_to base plain (length s)) (compound_from (length s) s 0 (allowed_up_to base plain (length s)))

abbrev pub flat_verdict : Form → Memory → List ℕ → Check
flat_verdict form m s = flat_check_of (code_base form) (byte_limit form) (verdict form m s) s

abbrev pub book_flat : List ℕ → Check
book_flat s = flat_verdict Book nothing_met s

-- the book first, as in the plain check of a query
unfoldable pub query_flat : List ℕ → List ℕ → Check
query_flat book s = eqb (book_flat book).code 0 ⇒ flat_verdict Query (met book) s ∣ book_flat book

-- "gives back how many distinct predicates and constants the book has"; a refusal gives "every count 0"
abbrev pub counted : Next.Book → Check → FlatBook
counted b c = record { code = c.code; place = c.place; clauses = c.count; predicates = book_predicates b; constants = book_constants b }

abbrev pub uncounted : Check → FlatBook
uncounted c = record { code = c.code; place = c.place; clauses = 0; predicates = 0; constants = 0 }

unfoldable pub flat_book_of : List ℕ → FlatBook
flat_book_of s = eqb (book_flat s).code 0 ⇒ counted (book_of s) (book_flat s) ∣ uncounted (book_flat s)
