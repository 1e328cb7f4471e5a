-- What is taken, and what is answered then, from both ends: bytes that are not refused are the images of a good book and a good goal that suits it; and on the images of
-- such a book and a goal, in an area that is long enough, each entry answers what its definition says of them. Nothing is said of refusals there.
use Rattle.std.specs.Prelude.{ℕ, ◌≤◌, ◌≡◌, ◌↔◌, List, length}
use Rattle.std.proofs.Common.{arith, ap, ap₂, ◌∙◌, subst}
use Rattle.search.specs.Next.{Book, Goal}
use Rattle.search.specs.Answer.{Answered, answered}
use Rattle.search.specs.AnswerTold.{ToldWith}
use Rattle.search.proofs.AnswerToldLaws.{answered-told}
use Rattle.search.specs.Single.{Single, step}
use Rattle.search.specs.Furthest.{no_figures}
use Rattle.search.specs.Pick.{pick, apply_by}
use Rattle.format.specs.declared.Check.{Check}
use Rattle.format.specs.Format.{GoodBook, GoodGoal, encode_book, encode_goal, Bytes}
use Rattle.format.specs.Decode.{book_of, goal_of}
use Rattle.format.specs.Arities.{Suits}
use Rattle.format.proofs.Meaning.{query-book, query-written}
use Rattle.format.proofs.Decoding.{book_of-good, goal_of-good, goal_of-suits, book_of-image, goal_of-image}
use Rattle.format.proofs.Premises.{book-clauses, goal_premises}
use Rattle.outcomes.specs.declared.admit.Admitted.{Admitted}
use Rattle.outcomes.specs.Outcome.{refusal, over, room, ended, run_answer, run_area, run_answer_area, stepped, step_said, leaves, step_answer, step_area, pick_said, pick_answer, apply_answer, apply_area}
use Rattle.outcomes.specs.Refusals.{query_decides, Good, not-refused}
use Rattle.outcomes.specs.Stepping as Stepping
use Rattle.outcomes.specs.Running as Running
use Rattle.outcomes.proofs.Calls.{pick-taken}

-- nothing is refused just where the area is long enough and both checks answer 0
pub taken_iff : (book query : List ℕ) (room : ℕ) → ((refusal book query room).code ≡ 0) ↔ Good book query room
taken_iff book query room = (not-refused book query room, λ g. ap (λ (a : Admitted). a.code) (query_decides book query room g.enough g.book_good) ∙ g.query_good)

-- the bytes are images, of a good book and a good goal
pub record Images (book query : List ℕ) : Type 0 where
  pub good_book : GoodBook (book_of book)
  pub book_image : encode_book (book_of book) ≡ book
  pub good_goal : GoodGoal (goal_of query)
  pub suits : Suits (book_of book) (goal_of query)
  pub query_image : encode_goal (goal_of query) ≡ query

pub images : (book query : List ℕ) → Bytes book → Bytes query → (room : ℕ) → (refusal book query room).code ≡ 0 → Images book query
images book query book-bytes query-bytes room z =
    let g = not-refused book query room z in
    let b = book_of-good book book-bytes g.book_good in
    let q = goal_of-good book query query-bytes g.query_good in
    record { good_book = b.0; book_image = b.1; good_goal = q.0; suits = goal_of-suits book query book-bytes query-bytes g.query_good; query_image = q.1 }

module _ (P : Book) (good_book : GoodBook P) (q : Goal) (good_goal : GoodGoal q) (suits : Suits P q) where
  room-enough : (room : ℕ) → 16387 ≤ room → (refusal (encode_book P) (encode_goal q) room).code ≡ 0
  room-enough room long =
      (taken_iff (encode_book P) (encode_goal q) room).1
      (let good = ap (λ (c : Check). c.code) (query-written P good_book q good_goal suits) in
      record { enough = long; book_good = query-book (encode_book P) (encode_goal q) good; query_good = good; askable = record { book = encode_book P; good = good } })

  pub pick-of-good : pick_answer (encode_book P) (encode_goal q) ≡ pick_said P q (pick P q)
  pick-of-good =
      pick-taken (encode_book P) (encode_goal q) (room-enough 16387 (omega arith)) ∙ ap₂ (λ b g. pick_said b g (pick b g)) (book_of-image P good_book) (goal_of-image q good_goal)

module _ (P : Book) (good_book : GoodBook P) (q : Goal) (good_goal : GoodGoal q) (suits : Suits P q) (area : List ℕ) (long : 16387 ≤ length area) where
  pub nothing-refused : (refusal (encode_book P) (encode_goal q) (length area)).code ≡ 0
  nothing-refused = room-enough P good_book q good_goal suits (length area) long

  pub step-of-good : (step_answer (encode_book P) (encode_goal q) area ≡ step_said P q (step P q)) × (step_area (encode_book P) (encode_goal q) area ≡ leaves (step P q).written area)
  step-of-good =
      let same : step (book_of (encode_book P)) (goal_of (encode_goal q)) ≡ step P q = ap₂ step (book_of-image P good_book) (goal_of-image q good_goal) in
      (Stepping.answer-taken (encode_book P) (encode_goal q) area nothing-refused ∙ ap₂ (λ b g. step_said b g (step b g)) (book_of-image P good_book) (goal_of-image q good_goal), Stepping.area-taken (encode_book P) (encode_goal q) area nothing-refused ∙ ap (λ (s : Single). leaves s.written area) same)

  pub apply-of-good : (k : ℕ) → (apply_answer (encode_book P) (encode_goal q) k area ≡ stepped no_figures (apply_by P q k)) × (apply_area (encode_book P) (encode_goal q) k area ≡ leaves (apply_by P q k).written area)
  apply-of-good k =
      let same : apply_by (book_of (encode_book P)) (goal_of (encode_goal q)) k ≡ apply_by P q k = ap₂ (λ b g. apply_by b g k) (book_of-image P good_book) (goal_of-image q good_goal) in
      let it = apply_by (book_of (encode_book P)) (goal_of (encode_goal q)) k in (
        Stepping.single-taken (encode_book P) (encode_goal q) area nothing-refused (stepped no_figures it) ∙ ap (stepped no_figures) same,
        Stepping.single-written (encode_book P) (encode_goal q) area nothing-refused it ∙ ap (λ (s : Single). leaves s.written area) same,
      )

-- the run, which is lent an answer area too
module _ (P : Book) (good_book : GoodBook P) (q : Goal) (good_goal : GoodGoal q) (suits : Suits P q) (area space : List ℕ) (long : 16387 ≤ room area space) (budget : ℕ) where
  abbrev Leaves : Answered → Type 0
  Leaves c = Running.Leaves P c area space (run_answer (encode_book P) (encode_goal q) budget area space) (run_area (encode_book P) (encode_goal q) budget area space) (run_answer_area (encode_book P) (encode_goal q) budget area space)

  pub run-of-good : Leaves (answered P budget q)
  run-of-good =
      let z = room-enough P good_book q good_goal suits (room area space) long in
      let same : answered (book_of (encode_book P)) budget (goal_of (encode_goal q)) ≡ answered P budget q = ap₂ (λ b g. answered b budget g) (book_of-image P good_book) (goal_of-image q good_goal) in
      record {
        answer = Running.answer-taken (encode_book P) (encode_goal q) budget area space z ∙ ap₂ (λ b g. ended b (answered b budget g)) (book_of-image P good_book) (goal_of-image q good_goal);
        area = Running.area-taken (encode_book P) (encode_goal q) budget area space z ∙ ap (λ (c : Answered). over (encode_goal c.goal) area) same;
        answer_area = Running.answer-area-taken (encode_book P) (encode_goal q) budget area space z ∙ ap (λ (c : Answered). over (encode_goal c.answer) space) same;
      }

  -- the same by document 01's "Detection states" and document 02's C-11, told as a relation
  pub run_as_told : (c : Answered) → ToldWith P budget q c → Leaves c
  run_as_told c told = let premises = goal_premises q good_goal in subst Leaves ((answered-told P (book-clauses P good_book) q premises.0 premises.1 budget c).1 told) run-of-good
