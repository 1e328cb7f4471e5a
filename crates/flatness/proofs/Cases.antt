-- Books and queries, byte by byte, with what the flat checks answer.
use Rattle.std.specs.Prelude.{ℕ, ◌≡◌, refl, List, [], ◌∷◌}
use Rattle.format.specs.declared.Check.{Check}
use Rattle.format.specs.Reading.{body_length, number_at, record_at, next_unused, after, allowed, in_range, is_in_size, is_in_order, judge_record, judge, whole, finish, walk, met_from, verdict}
use Rattle.format.specs.Arities.{meet, keeps}
use Rattle.format.specs.Decode.{book_of}
use Rattle.flatness.specs.declared.FlatBook.{FlatBook}
use Rattle.flatness.specs.Counts.{book_predicates, book_constants}
use Rattle.flatness.specs.Profile.{compound_from, flat_check_of, query_flat, flat_book_of}

abbrev Image : Type 0
Image = List ℕ

abbrev good : ℕ → ℕ → ℕ → FlatBook
good clauses predicates constants = record { code = 0; place = 0; clauses = clauses; predicates = predicates; constants = constants }

abbrev bad : ℕ → ℕ → FlatBook
bad code place = record { code = code; place = place; clauses = 0; predicates = 0; constants = 0 }

abbrev taken : ℕ → Check
taken nodes = record { code = 0; place = 0; count = nodes }

abbrev refused : ℕ → ℕ → Check
refused code place = record { code = code; place = place; count = 0 }

-- p(a,b) :- q(a), q(X). q(b). r(a): p and q and r, two constants; q stands in a body and in a head, each constant twice
abbrev flat_book : Image
flat_book =
    0x05 ∷ 0x02 ∷ 0x04 ∷ 0x00 ∷ 0x00 ∷ 0x02 ∷ 0x02 ∷ 0x00 ∷ 0x00 ∷ 0x02 ∷ 0x00 ∷ 0x01 ∷ 0x04 ∷ 0x00 ∷ 0x01 ∷ 0x01 ∷ 0x02 ∷ 0x00 ∷ 0x00 ∷ 0x04 ∷ 0x00 ∷ 0x01 ∷ 0x01 ∷ 0x01 ∷ 0x00 ∷ 0x00
    ∷ 0x05 ∷ 0x00 ∷ 0x04 ∷ 0x00 ∷ 0x01 ∷ 0x01 ∷ 0x02 ∷ 0x00 ∷ 0x01
    ∷ 0x05 ∷ 0x00 ∷ 0x04 ∷ 0x00 ∷ 0x02 ∷ 0x01 ∷ 0x02 ∷ 0x00 ∷ 0x00
    ∷ 0x07 ∷ []

-- p(f(a)).
abbrev compound_book : Image
compound_book = 0x05 ∷ 0x00 ∷ 0x04 ∷ 0x00 ∷ 0x00 ∷ 0x01 ∷ 0x03 ∷ 0x00 ∷ 0x00 ∷ 0x01 ∷ 0x02 ∷ 0x00 ∷ 0x00 ∷ 0x07 ∷ []

-- and cut behind the kind byte of f; and with nine arguments
abbrev compound_cut : Image
compound_cut = 0x05 ∷ 0x00 ∷ 0x04 ∷ 0x00 ∷ 0x00 ∷ 0x01 ∷ 0x03 ∷ []

abbrev compound_range : Image
compound_range = 0x05 ∷ 0x00 ∷ 0x04 ∷ 0x00 ∷ 0x00 ∷ 0x01 ∷ 0x03 ∷ 0x00 ∷ 0x00 ∷ 0x09 ∷ 0x07 ∷ []

-- a compound record where a head is due, and where the book is at its end
abbrev compound_head : Image
compound_head = 0x05 ∷ 0x00 ∷ 0x03 ∷ 0x00 ∷ 0x00 ∷ 0x01 ∷ 0x02 ∷ 0x00 ∷ 0x00 ∷ 0x07 ∷ []

abbrev compound_behind : Image
compound_behind = 0x05 ∷ 0x00 ∷ 0x04 ∷ 0x00 ∷ 0x00 ∷ 0x00 ∷ 0x07 ∷ 0x03 ∷ []

-- p(X1,f(a)), whose variable should be X0: the first bad record decides; and p(f(a),X1)
abbrev fault_before : Image
fault_before = 0x05 ∷ 0x00 ∷ 0x04 ∷ 0x00 ∷ 0x00 ∷ 0x02 ∷ 0x01 ∷ 0x00 ∷ 0x01 ∷ 0x03 ∷ 0x00 ∷ 0x00 ∷ 0x01 ∷ 0x02 ∷ 0x00 ∷ 0x00 ∷ 0x07 ∷ []

abbrev fault_behind : Image
fault_behind = 0x05 ∷ 0x00 ∷ 0x04 ∷ 0x00 ∷ 0x00 ∷ 0x02 ∷ 0x03 ∷ 0x00 ∷ 0x00 ∷ 0x01 ∷ 0x02 ∷ 0x00 ∷ 0x00 ∷ 0x01 ∷ 0x00 ∷ 0x01 ∷ 0x07 ∷ []

-- p(X0,c); p(f(c),X0); and no query at all
abbrev flat_goal : Image
flat_goal = 0x06 ∷ 0x00 ∷ 0x01 ∷ 0x04 ∷ 0x00 ∷ 0x00 ∷ 0x02 ∷ 0x01 ∷ 0x00 ∷ 0x00 ∷ 0x02 ∷ 0x00 ∷ 0x02 ∷ []

abbrev compound_goal : Image
compound_goal = 0x06 ∷ 0x00 ∷ 0x01 ∷ 0x04 ∷ 0x00 ∷ 0x00 ∷ 0x02 ∷ 0x03 ∷ 0x00 ∷ 0x00 ∷ 0x01 ∷ 0x02 ∷ 0x00 ∷ 0x02 ∷ 0x01 ∷ 0x00 ∷ 0x00 ∷ []

pub flat-books-answered : (flat_book_of flat_book ≡ good 3 3 2) × (flat_book_of (0x07 ∷ []) ≡ good 0 0 0) × (flat_book_of compound_book ≡ bad 8 6) × (flat_book_of compound_cut ≡ bad 8 6) × (flat_book_of compound_range ≡ bad 8 6)
    × (flat_book_of compound_head ≡ bad 2 2) × (flat_book_of compound_behind ≡ bad 2 7) × (flat_book_of fault_before ≡ bad 6 6) × (flat_book_of fault_behind ≡ bad 8 6)
unfolding compound_from flat_check_of flat_book_of book_predicates book_constants book_of body_length number_at record_at next_unused after allowed in_range is_in_size is_in_order judge_record judge whole finish walk met_from verdict meet keeps
flat-books-answered = (refl, refl, refl, refl, refl, refl, refl, refl, refl)

pub flat_queries_answered : (query_flat flat_book flat_goal ≡ taken 3) × (query_flat flat_book compound_goal ≡ refused 18 7) × (query_flat flat_book [] ≡ refused 12 0) × (query_flat compound_book flat_goal ≡ refused 8 6)
unfolding compound_from flat_check_of query_flat book_of body_length number_at record_at next_unused after allowed in_range is_in_size is_in_order judge_record judge whole finish walk met_from verdict meet keeps
flat_queries_answered = (refl, refl, refl, refl)
