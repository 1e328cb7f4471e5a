-- What each entry answers, and what it leaves in the goal area, and a run in the answer area, for any arguments (document 01, "Codes"; document 02).
use Rattle.std.specs.Prelude.{ℕ, min, Bool, List, ◌++◌, length, drop, eqb, ltb}
use Rattle.std.proofs.Math.Option.{Option, none, some}
use Rattle.terms.specs.When.{◌⇒◌∣◌}
use Rattle.search.specs.Next.{Book, Goal}
use Rattle.search.specs.Furthest.{Figures, no_figures, figures}
use Rattle.search.specs.Answer.{Answered, answered}
use Rattle.search.specs.Single.{Single, step}
use Rattle.search.specs.Pick.{Pick, pick, apply_by}
use Rattle.format.specs.Reading.{query_verdict}
use Rattle.format.specs.Format.{encode_goal}
use Rattle.format.specs.Decode.{book_of, goal_of}
use Rattle.outcomes.specs.declared.admit.Admitted.{Admitted}
use Rattle.outcomes.specs.declared.Answer.{Answer}
use Rattle.outcomes.specs.declared.Picked.{Picked}
use Rattle.outcomes.specs.declared.Stepped.{Stepped}

-- "Goal area: at least 16,387 bytes." "Order: area; whole book; whole query." The query's check takes the book and checks it first (document 02, C-18). Code 0 refuses
-- nothing.
unfoldable pub refusal : List ℕ → List ℕ → ℕ → Admitted
refusal book query room =
    ltb room 16387 ⇒ record { code = 1; place = 0 }
    ∣ record { code = (query_verdict book query).code; place = (query_verdict book query).place }

-- the book and the query are taken
abbrev pub taken : List ℕ → List ℕ → List ℕ → Bool
taken book query area = eqb (refusal book query (length area)).code 0

-- "Past the image the area keeps its bytes."
abbrev pub over : List ℕ → List ℕ → List ℕ
over image area = image ++ drop (length image) area

-- The run

-- "1 also for an answer area under 16,387 bytes" (document 02, C-11): the shorter of the two areas decides
abbrev pub room : List ℕ → List ℕ → ℕ
room area space = min (length area) (length space)

-- "give steps, span, bytes and every count 0"
abbrev pub refused : Admitted → Answer
refused r = record { code = r.code; place = r.place; steps = 0; span = 0; bytes = 0; answer = 0; furthest = 0; argument = 0 }

-- "codes from 20 up have place 0"; "The result .. adds the answer's bytes" (C-11); the clause that got furthest, and the argument, are of the closing goal (C-19)
abbrev pub ended : Book → Answered → Answer
ended P r =
    let w = figures P r.code r.goal in
    record { code = r.code; place = 0; steps = r.steps; span = r.span; bytes = length (encode_goal r.goal); answer = length (encode_goal r.answer); furthest = w.clause; argument = w.argument }

-- the run, with its answer, of the book and the query that the bytes are images of
abbrev pub closing : List ℕ → List ℕ → ℕ → Answered
closing book query budget = answered (book_of book) budget (goal_of query)

-- the book and the query are taken, with a goal area and an answer area
abbrev pub run_taken : List ℕ → List ℕ → List ℕ → List ℕ → Bool
run_taken book query area space = eqb (refusal book query (room area space)).code 0

unfoldable pub run_answer : List ℕ → List ℕ → ℕ → List ℕ → List ℕ → Answer
run_answer book query budget area space =
    run_taken book query area space ⇒ ended (book_of book) (closing book query budget)
    ∣ refused (refusal book query (room area space))

-- "After codes 20 to 24 and 27 the goal area and the answer area hold the goal and the instance at the closing state." "An entry that refuses its input changes nothing in any
-- lent area"
unfoldable pub run_area : List ℕ → List ℕ → ℕ → List ℕ → List ℕ → List ℕ
run_area book query budget area space =
    run_taken book query area space ⇒ over (encode_goal (closing book query budget).goal) area
    ∣ area

unfoldable pub run_answer_area : List ℕ → List ℕ → ℕ → List ℕ → List ℕ → List ℕ
run_answer_area book query budget area space =
    run_taken book query area space ⇒ over (encode_goal (closing book query budget).answer) space
    ∣ space

-- The single step

abbrev pub step_refused : Admitted → Stepped
step_refused r = record { code = r.code; place = r.place; steps = 0; span = 0; bytes = 0; clause = 0; furthest = 0; argument = 0 }

abbrev pub bytes_of : Option Goal → ℕ
bytes_of none = 0
bytes_of (some h) = length (encode_goal h)

-- "Its span is always 0."
abbrev pub stepped : Figures → Single → Stepped
stepped w s = record { code = s.code; place = 0; steps = s.steps; span = 0; bytes = bytes_of s.written; clause = s.clause; furthest = w.clause; argument = w.argument }

-- with the figures of its code and the query's goal
abbrev pub step_said : Book → Goal → Single → Stepped
step_said P g s = stepped (figures P s.code g) s

-- "Only code 25 writes: the next goal's image at the front of the area."
abbrev pub leaves : Option Goal → List ℕ → List ℕ
leaves none area = area
leaves (some h) area = over (encode_goal h) area

-- the answer and the area where the book and the query, if they are taken, come to the answer r and the single step s
unfoldable pub single_answer : List ℕ → List ℕ → List ℕ → Stepped → Stepped
single_answer book query area r = taken book query area ⇒ r ∣ step_refused (refusal book query (length area))

unfoldable pub single_area : List ℕ → List ℕ → List ℕ → Single → List ℕ
single_area book query area s = taken book query area ⇒ leaves s.written area ∣ area

abbrev pub step_answer : List ℕ → List ℕ → List ℕ → Stepped
step_answer book query area = single_answer book query area (step_said (book_of book) (goal_of query) (step (book_of book) (goal_of query)))

abbrev pub step_area : List ℕ → List ℕ → List ℕ → List ℕ
step_area book query area = single_area book query area (step (book_of book) (goal_of query))

-- The single step in two calls (document 02, C-16)

-- "The apply call answers 25 with steps 1 and its clause number and writes the next goal, or is refused and writes nothing."
abbrev pub apply_answer : List ℕ → List ℕ → ℕ → List ℕ → Stepped
apply_answer book query clause area = single_answer book query area (stepped no_figures (apply_by (book_of book) (goal_of query) clause))

abbrev pub apply_area : List ℕ → List ℕ → ℕ → List ℕ → List ℕ
apply_area book query clause area = single_area book query area (apply_by (book_of book) (goal_of query) clause)

-- "its steps are 0"
abbrev pub picked_as : Figures → Pick → Picked
picked_as w p = record { code = p.code; place = 0; steps = 0; clause = p.clause; furthest = w.clause; argument = w.argument }

abbrev pub pick_said : Book → Goal → Pick → Picked
pick_said P g p = picked_as (figures P p.code g) p

abbrev pub pick_refused : Admitted → Picked
pick_refused r = record { code = r.code; place = r.place; steps = 0; clause = 0; furthest = 0; argument = 0 }

-- the pick is lent no area, and what it refuses is what is refused where the area is long enough
unfoldable pub pick_answer : List ℕ → List ℕ → Picked
pick_answer book query =
    eqb (refusal book query 16387).code 0 ⇒ pick_said (book_of book) (goal_of query) (pick (book_of book) (goal_of query))
    ∣ pick_refused (refusal book query 16387)
