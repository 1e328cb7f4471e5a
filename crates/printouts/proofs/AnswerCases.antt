-- An answer `p(V5)`, by a book with no clause: as a query it is refused for its variable, which is above the next unused one, and as an answer it is good. A fault of another
-- kind is refused where it is in a query.
use Rattle.std.specs.Prelude.{ℕ, ◌≡◌, refl, List, [], ◌∷◌}
use Rattle.format.specs.declared.Check.{Check}
use Rattle.format.specs.Arities.{meet, keeps}
use Rattle.format.specs.Reading.{allowed, body_length, number_at, record_at, in_range, is_in_size, is_in_order, next_unused, after, judge_record, judge, whole, finish, walk, met_from, verdict, query_verdict}
use Rattle.printouts.specs.Answer.{clear_at, cleared, answer_verdict}

abbrev no_clause : List ℕ
no_clause = 7 ∷ []

-- `p(V5)`, and the same with no byte for its variable's number
abbrev answer : List ℕ
answer = 6 ∷ 0 ∷ 1 ∷ 4 ∷ 0 ∷ 0 ∷ 1 ∷ 1 ∷ 0 ∷ 5 ∷ []

abbrev cut : List ℕ
cut = 6 ∷ 0 ∷ 1 ∷ 4 ∷ 0 ∷ 0 ∷ 1 ∷ 1 ∷ 0 ∷ []

abbrev of : ℕ → ℕ → ℕ → Check
of code place count = record { code = code; place = place; count = count }

pub answers-checked : (query_verdict no_clause answer ≡ of 16 7 0) × (answer_verdict no_clause answer ≡ of 0 0 2) × (answer_verdict no_clause cut ≡ of 13 7 0)
unfolding allowed body_length number_at record_at in_range is_in_size is_in_order meet keeps next_unused after judge_record judge whole finish walk met_from verdict query_verdict clear_at cleared
answers-checked = (refl, refl, refl)
