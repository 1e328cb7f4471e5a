-- The ways out of a run: what is answered and what is left, refused or not. The contracts of the run's parts cite `Leaves`.
use Rattle.std.specs.Prelude.{ℕ, ◌≡◌, List}
use Rattle.std.proofs.Common.{eq-eqb, ne_eqb}
use Rattle.search.specs.Next.{Book}
use Rattle.search.specs.Answer.{Answered}
use Rattle.format.specs.Format.{encode_goal}
use Rattle.format.specs.Decode.{book_of}
use Rattle.outcomes.specs.declared.Answer.{Answer}
use Rattle.outcomes.specs.Outcome.{refusal, over, room, refused, ended, closing, run_answer, run_area, run_answer_area}

-- the run that closes with c answers r, and makes the goal area `before` into `after`, and the answer area `space` into `filled`
pub record Leaves (P : Book) (c : Answered) (before space : List ℕ) (r : Answer) (after filled : List ℕ) : Type 0 where
  pub answer : r ≡ ended P c
  pub area : after ≡ over (encode_goal c.goal) before
  pub answer_area : filled ≡ over (encode_goal c.answer) space

module _ (book query : List ℕ) (budget : ℕ) (area space : List ℕ) where
  -- refused: "give steps, span, bytes and every count 0"; "An entry that refuses its input changes nothing in any lent area"
  module _ (n : (refusal book query (room area space)).code ≡ 0 → ⊥) where
    pub answer-refused : run_answer book query budget area space ≡ refused (refusal book query (room area space))
    unfolding run_answer
    answer-refused = simp (ne_eqb (refusal book query (room area space)).code 0 n)

    pub area-refused : run_area book query budget area space ≡ area
    unfolding run_area
    area-refused = simp (ne_eqb (refusal book query (room area space)).code 0 n)

    pub answer-area-refused : run_answer_area book query budget area space ≡ space
    unfolding run_answer_area
    answer-area-refused = simp (ne_eqb (refusal book query (room area space)).code 0 n)

  -- taken
  module _ (z : (refusal book query (room area space)).code ≡ 0) where
    pub answer-taken : run_answer book query budget area space ≡ ended (book_of book) (closing book query budget)
    unfolding run_answer
    answer-taken = simp (eq-eqb (refusal book query (room area space)).code 0 z)

    pub area-taken : run_area book query budget area space ≡ over (encode_goal (closing book query budget).goal) area
    unfolding run_area
    area-taken = simp (eq-eqb (refusal book query (room area space)).code 0 z)

    pub answer-area-taken : run_answer_area book query budget area space ≡ over (encode_goal (closing book query budget).answer) space
    unfolding run_answer_area
    answer-area-taken = simp (eq-eqb (refusal book query (room area space)).code 0 z)
