-- What the step and the run of the flat profile answer, and what they leave in the lent areas (document 02, C-20): the plain ones, behind the refusals of the flat checks.
use Rattle.std.specs.Prelude.{ℕ, ◌+◌, ◌*◌, ◌^◌, ◌<◌, Bool, List, length, eqb, ltb}
use Rattle.terms.specs.When.{◌⇒◌∣◌}
use Rattle.format.specs.declared.Check.{Check}
use Rattle.flatness.specs.declared.FlatBook.{FlatBook}
use Rattle.flatness.specs.Profile.{query_flat}
use Rattle.outcomes.specs.declared.admit.Admitted.{Admitted}
use Rattle.outcomes.specs.declared.Answer.{Answer}
use Rattle.outcomes.specs.declared.Stepped.{Stepped}
use Rattle.outcomes.specs.Outcome.{room, refused, step_refused, run_answer, run_area, run_answer_area, step_answer, step_area}

-- "Order: area; whole book; whole query.", with the flat checks
unfoldable pub flat_refusal : List ℕ → List ℕ → ℕ → Admitted
flat_refusal book query room =
    ltb room 16387 ⇒ record { code = 1; place = 0 }
    ∣ record { code = (query_flat book query).code; place = (query_flat book query).place }

-- the book and the query are taken
abbrev pub flat_taken : List ℕ → List ℕ → ℕ → Bool
flat_taken book query room = eqb (flat_refusal book query room).code 0

unfoldable pub flat_run_answer : List ℕ → List ℕ → ℕ → List ℕ → List ℕ → Answer
flat_run_answer book query budget area space =
    flat_taken book query (room area space) ⇒ run_answer book query budget area space
    ∣ refused (flat_refusal book query (room area space))

-- "An entry that refuses its input changes nothing in any lent area"
unfoldable pub flat_run_area : List ℕ → List ℕ → ℕ → List ℕ → List ℕ → List ℕ
flat_run_area book query budget area space = flat_taken book query (room area space) ⇒ run_area book query budget area space ∣ area

unfoldable pub flat_run_answer_area : List ℕ → List ℕ → ℕ → List ℕ → List ℕ → List ℕ
flat_run_answer_area book query budget area space = flat_taken book query (room area space) ⇒ run_answer_area book query budget area space ∣ space

unfoldable pub flat_step_answer : List ℕ → List ℕ → List ℕ → Stepped
flat_step_answer book query area = flat_taken book query (length area) ⇒ step_answer book query area ∣ step_refused (flat_refusal book query (length area))

unfoldable pub flat_step_area : List ℕ → List ℕ → List ℕ → List ℕ
flat_step_area book query area = flat_taken book query (length area) ⇒ step_area book query area ∣ area

-- For C: "outcome in the lowest eight bits; the next 24 bits hold the place for codes 1 to 19", and the count of what is good; above them a book's two counts

abbrev pub flat_book_number : FlatBook → ℕ
flat_book_number r = r.code + 256 * (eqb r.code 0 ⇒ r.clauses ∣ r.place) + 2 ^ 32 * (r.predicates + 2 ^ 16 * r.constants)

abbrev pub flat_query_number : Check → ℕ
flat_query_number c = c.code + 256 * (eqb c.code 0 ⇒ c.count ∣ c.place)

-- there is room for each part
pub record BookNarrow (r : FlatBook) : Type 0 where
  pub place : r.place < 2 ^ 24
  pub clauses : r.clauses < 2 ^ 24
  pub predicates : r.predicates < 2 ^ 16
  pub constants : r.constants < 2 ^ 16

pub record QueryNarrow (c : Check) : Type 0 where
  pub place : c.place < 2 ^ 24
  pub count : c.count < 2 ^ 24
