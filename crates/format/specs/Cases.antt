-- Document 01's cases P10, P11, P12, 16 and 17: what a check of the book answers, one claim for the table; and books and queries that have a predicate number with two
-- arities (document 02, C-18).
use Rattle.std.specs.Prelude.{ℕ, ◌≡◌, refl, List, [], ◌∷◌, ◌++◌}
use Rattle.format.specs.Reading.{allowed, body_length, number_at, record_at, in_range, is_in_size, is_in_order, next_unused, after, judge_record, judge, whole, finish, walk, met_from, verdict, book_verdict, query_verdict}
use Rattle.format.specs.declared.Check.{Check}
use Rattle.format.specs.Arities.{meet, keeps}

-- a book, and the code and the place that its check answers
pub record Case : Type 0 where
  pub book : List ℕ
  pub code : ℕ
  pub place : ℕ

abbrev p10 : Case
p10 = record { book = 0x05 ∷ 0x11 ∷ []; code = 4; place = 0 }

abbrev p11 : Case
p11 = record { book = 0x05 ∷ 0x00 ∷ 0x04 ∷ 0x00 ∷ 0x01 ∷ 0x01 ∷ 0x02 ∷ 0x00 ∷ []; code = 3; place = 6 }

abbrev p12 : Case
p12 = record { book = 0x05 ∷ 0x00 ∷ 0x04 ∷ 0x00 ∷ 0x01 ∷ 0x01 ∷ 0x01 ∷ 0x00 ∷ 0x01 ∷ 0x07 ∷ []; code = 6; place = 6 }

abbrev case16 : Case
case16 = record { book = []; code = 2; place = 0 }

abbrev case17 : Case
case17 = record { book = 0x07 ∷ 0x07 ∷ []; code = 2; place = 1 }

abbrev pub cases : List Case
cases = p10 ∷ p11 ∷ p12 ∷ case16 ∷ case17 ∷ []

abbrev pub AllAnswered : List Case → Type 0
AllAnswered [] = Unit {0}
AllAnswered (c ∷ cs) = (book_verdict c.book ≡ record { code = c.code; place = c.place; count = 0 }) × AllAnswered cs

pub cases-answered : AllAnswered cases
unfolding allowed body_length number_at record_at in_range is_in_size is_in_order meet keeps next_unused after judge_record judge whole finish walk verdict
cases-answered = (refl, (refl, (refl, (refl, (refl, tt)))))

-- One predicate, two arities. The clause e(a), with e and a numbered 1, and then others: e(a,b); e(a) :- e.
abbrev e_a : List ℕ
e_a = 0x05 ∷ 0x00 ∷ 0x04 ∷ 0x00 ∷ 0x01 ∷ 0x01 ∷ 0x02 ∷ 0x00 ∷ 0x01 ∷ []

abbrev two_heads : Case
two_heads = record { book = e_a ++ (0x05 ∷ 0x00 ∷ 0x04 ∷ 0x00 ∷ 0x01 ∷ 0x02 ∷ 0x02 ∷ 0x00 ∷ 0x01 ∷ 0x02 ∷ 0x00 ∷ 0x02 ∷ 0x07 ∷ []); code = 7; place = 11 }

abbrev head_and_body : Case
head_and_body = record { book = 0x05 ∷ 0x01 ∷ 0x04 ∷ 0x00 ∷ 0x01 ∷ 0x01 ∷ 0x02 ∷ 0x00 ∷ 0x01 ∷ 0x04 ∷ 0x00 ∷ 0x01 ∷ 0x00 ∷ 0x07 ∷ []; code = 7; place = 9 }

-- range before it: an arity of 9 is 4
abbrev arity_9 : Case
arity_9 = record { book = e_a ++ (0x05 ∷ 0x00 ∷ 0x04 ∷ 0x00 ∷ 0x01 ∷ 0x09 ∷ []); code = 4; place = 11 }

pub arities-answered : AllAnswered (two_heads ∷ head_and_body ∷ arity_9 ∷ [])
unfolding allowed body_length number_at record_at in_range is_in_size is_in_order meet keeps next_unused after judge_record judge whole finish walk verdict
arities-answered = (refl, (refl, (refl, tt)))

-- a book, a query, and what the query's check answers
pub record Asked : Type 0 where
  pub book : List ℕ
  pub query : List ℕ
  pub answer : Check

abbrev against : List ℕ → List ℕ → ℕ → ℕ → ℕ → Asked
against b q code place count = record { book = b; query = q; answer = record { code = code; place = place; count = count } }

-- by the book e(a): e against its head; f(a), f against itself; f(a), f(b), at one arity; and any query by a book that is refused
abbrev pub asked : List Asked
asked =
    against (e_a ++ (0x07 ∷ [])) (0x06 ∷ 0x00 ∷ 0x01 ∷ 0x04 ∷ 0x00 ∷ 0x01 ∷ 0x00 ∷ []) 17 3 0
    ∷ against (e_a ++ (0x07 ∷ [])) (0x06 ∷ 0x00 ∷ 0x02 ∷ 0x04 ∷ 0x00 ∷ 0x02 ∷ 0x01 ∷ 0x02 ∷ 0x00 ∷ 0x01 ∷ 0x04 ∷ 0x00 ∷ 0x02 ∷ 0x00 ∷ []) 17 10 0
    ∷ against (e_a ++ (0x07 ∷ [])) (0x06 ∷ 0x00 ∷ 0x02 ∷ 0x04 ∷ 0x00 ∷ 0x02 ∷ 0x01 ∷ 0x02 ∷ 0x00 ∷ 0x01 ∷ 0x04 ∷ 0x00 ∷ 0x02 ∷ 0x01 ∷ 0x02 ∷ 0x00 ∷ 0x02 ∷ []) 0 0 4
    ∷ against head_and_body.book (0x06 ∷ []) 7 9 0
    ∷ []

abbrev pub AllAsked : List Asked → Type 0
AllAsked [] = Unit {0}
AllAsked (a ∷ rest) = (query_verdict a.book a.query ≡ a.answer) × AllAsked rest

pub queries_answered : AllAsked asked
unfolding allowed body_length number_at record_at in_range is_in_size is_in_order meet keeps next_unused after judge_record judge whole finish walk met_from verdict query_verdict
queries_answered = (refl, (refl, (refl, (refl, tt))))
