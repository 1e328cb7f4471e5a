-- The demands over bytes: what each code says of the path; demand 3, both halves. Nothing here looks at the code: `run_answer`, `run_area` and `run_answer_area` are what the
-- contract of `run` says.
use Rattle.std.specs.Prelude.{ℕ, ◌+◌, ◌-◌, ◌*◌, ◌≤◌, max, ◌≡◌, List}
use Rattle.std.proofs.Common.{arith, sym as inv, ap, ◌∙◌, subst}
use Rattle.std.proofs.Math.Option.{some}
use Rattle.terms.specs.Row.{Formulas}
use Rattle.terms.specs.Number.{Numbered}
use Rattle.search.specs.Next.{Book, Goal, Clauses}
use Rattle.search.specs.Run.{Closed, run, goal_at, Roomy}
use Rattle.search.specs.Cycle.{Cyclic}
use Rattle.search.specs.Codes.{Looping}
use Rattle.search.proofs.Shortest.{Shortest, span-shortest}
use Rattle.search.specs.Answer.{Answered, closed, Slim, Answers}
use Rattle.search.proofs.AnswerLaws.{answered-runs}
use Rattle.search.proofs.AnswerRuns.{answered-run}
use Rattle.search.specs.AnswerTold.{SaysWith}
use Rattle.search.proofs.AnswerTheorem.{loop-means-answered, loop-in_time_answered, answered-says}
use Rattle.format.specs.Format.{encode_goal, Bytes}
use Rattle.format.specs.Decode.{book_of, goal_of}
use Rattle.format.proofs.Premises.{book-clauses, goal_premises}
use Rattle.outcomes.specs.declared.Answer.{Answer}
use Rattle.outcomes.specs.Outcome.{refusal, over, room, ended, closing, run_answer, run_area, run_answer_area}
use Rattle.outcomes.specs.Running.{answer-taken, area-taken, answer-area-taken}
use Rattle.outcomes.proofs.Figures.{taken-by-code}
use Rattle.outcomes.proofs.Images.{Images, images}

module _ (book query : List ℕ) (budget : ℕ) (area space : List ℕ) where
  abbrev answer : Answer
  answer = run_answer book query budget area space

  module _ (book-bytes : Bytes book) (query-bytes : Bytes query) where
    abbrev P : Book
    P = book_of book

    abbrev q : Goal
    q = goal_of query

    abbrev r : Answered
    r = closing book query budget

    abbrev runs : Answers P budget q r
    runs = answered-runs P budget q

    -- the answer and the areas are those of the run of the good book and the good goal that the bytes are images of
    pub record Taken : Type 0 where
      pub images : Images book query
      pub answer_is : answer ≡ ended P r
      pub area_is : run_area book query budget area space ≡ over (encode_goal r.goal) area
      pub answer_area_is : run_answer_area book query budget area space ≡ over (encode_goal r.answer) space

    pub taken-by : (refusal book query (room area space)).code ≡ 0 → Taken
    taken-by z = record {
      images = images book query book-bytes query-bytes (room area space) z;
      answer_is = answer-taken book query budget area space z;
      area_is = area-taken book query budget area space z;
      answer_area_is = answer-area-taken book query budget area space z;
    }

    -- "Codes 1 to 19 refuse the input": with a code from 20 up it is taken
    pub taken : 20 ≤ answer.code → Taken
    taken h = taken-by (taken-by-code book query budget area space h)

    good-clauses : Taken → Clauses P
    good-clauses t = book-clauses P t.images.good_book

    good-formulas : Taken → Formulas q
    good-formulas t = (goal_premises q t.images.good_goal).0

    good-numbered : Taken → Numbered q
    good-numbered t = (goal_premises q t.images.good_goal).1

    -- What each code says of the path without limits, from 20 up.
    pub run-says : (t : Taken) → SaysWith P budget q r runs.state answer.code
    run-says t = subst (SaysWith P budget q r runs.state) (inv (ap (λ (a : Answer). a.code) t.answer_is)) (answered-says P (good-clauses t) budget q (good-formulas t) (good-numbered t) r runs)

    -- Demand 3, the first half: where code 21 is answered, the search without limits of budget and room never ends, and searching the leftmost formula of the goal
    -- that is left, by itself, brings a renamed copy of it back to the front after the reported span.
    pub loop-said : answer.code ≡ 21 → Looping P q (closed r) runs.state × (r.span ≡ answer.span)
    loop-said e =
        let t = taken (omega (arith, e)) in
        let is = t.answer_is in
        (loop-means-answered P budget q (good-numbered t) r runs (inv (ap (λ (a : Answer). a.code) is) ∙ e), inv (ap (λ (a : Answer). a.span) is))

    -- Demand 3, the second half: if the goal after s steps is cyclic with period n, the budget allows so many steps and every goal and every answer up to there has
    -- room, then code 21 is answered, within so many steps.
    pub loop-found : Taken → (s n : ℕ) (g : Goal) → goal_at P q s ≡ some g → Cyclic P g n
        → let bound : ℕ = 2 * max s (2 * n - 1) + 2 * n - 2 in
        bound ≤ budget → Roomy P q bound → Slim P q bound → (answer.code ≡ 21) × (answer.steps ≤ bound)
    loop-found t s n g e c allowed roomy slim =
        let l = loop-in_time_answered P budget q (good-numbered t) s n g e c allowed roomy slim in
        let is = t.answer_is in
        (ap (λ (a : Answer). a.code) is ∙ l.0, omega (arith, ap (λ (a : Answer). a.steps) is, l.1))

    -- C-23: the goal that is left, and the circle that the answer's numbers draw. No number from 1 up and smaller than the span is a period of its leftmost formula, and the goal at
    -- step `steps - span` of the path begins with the same formula and was already primitive cyclic with that period.
    pub record Circle : Type 0 where
      pub goal : Goal
      pub left : run_area book query budget area space ≡ over (encode_goal goal) area
      pub drawn : Shortest P q answer.steps answer.span goal

    pub loop-shortest : answer.code ≡ 21 → Circle
    loop-shortest e =
        let t = taken (omega (arith, e)) in
        let is = t.answer_is in
        let code : r.code ≡ 21 = inv (ap (λ (a : Answer). a.code) is) ∙ e in
        let same : run P budget q ≡ closed r = answered-run P budget q r runs (λ z. omega arith) in
        let circle = subst (λ (c : Closed). Shortest P q c.steps c.span c.goal) same (span-shortest P budget q (good-numbered t) (ap (λ (c : Closed). c.code) same ∙ code)) in
        record {
          goal = r.goal;
          left = t.area_is;
          drawn = subst (λ (a : Answer). Shortest P q a.steps a.span r.goal) (inv is) circle;
        }
