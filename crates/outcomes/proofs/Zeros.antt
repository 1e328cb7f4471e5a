-- Where figures are 0, and where the area stays as it was (document 01, "Codes"): "Codes 1 to 19 refuse the input .. and give steps, span, bytes and every count 0. Code 1,
-- code 0 and codes from 20 up have place 0. An entry that refuses its input changes nothing in any lent area". "Only code 21 has a span other than 0." "Its span is
-- always 0", of a single step.
use Rattle.std.specs.Prelude.{ℕ, ◌≤◌, ◌<◌, ◌≡◌, List, length}
use Rattle.std.proofs.Common.{arith, sym as inv, ap, ◌∙◌}
use Rattle.std.proofs.Math.Decide.{ℕ_discrete}
use Rattle.search.proofs.AnswerLaws.{answered-runs}
use Rattle.search.proofs.AnswerRuns.{answers-span}
use Rattle.format.specs.Decode.{book_of, goal_of}
use Rattle.outcomes.specs.declared.Answer.{Answer}
use Rattle.outcomes.specs.declared.Stepped.{Stepped}
use Rattle.outcomes.specs.declared.admit.Admitted.{Admitted}
use Rattle.outcomes.specs.Outcome.{refusal, room, closing, run_answer, run_area, run_answer_area, step_answer, step_area}
use Rattle.outcomes.specs.Refusals.{area-short}
use Rattle.outcomes.proofs.Listed.{short-only, run-high, step-high}
use Rattle.outcomes.specs.Stepping as Stepping
use Rattle.outcomes.specs.Running as Running
use Rattle.outcomes.proofs.Figures.{taken-by-code}
use Rattle.outcomes.proofs.StepSays.{step-taken}

short-place : (book query : List ℕ) (room : ℕ) → (refusal book query room).code ≡ 1 → (refusal book query room).place ≡ 0
short-place book query room e = ap (λ (r : Admitted). r.place) (area-short book query room (short-only book query room e))

-- The run.
module _ (book query : List ℕ) (budget : ℕ) (area space : List ℕ) where
  abbrev answer : Answer
  answer = run_answer book query budget area space

  abbrev code : ℕ
  code = (refusal book query (room area space)).code

  pub run-refuses : answer.code < 20 → (answer.steps ≡ 0) × (answer.span ≡ 0) × (answer.bytes ≡ 0) × (answer.answer ≡ 0) × (run_area book query budget area space ≡ area) × (run_answer_area book query budget area space ≡ space)
  run-refuses l = elim (ℕ_discrete code 0) [
    | yes z ↦ absurd (omega (arith, run-high book query area space budget z))
    | no n ↦
        let e = Running.answer-refused book query budget area space n in
        (ap (λ (a : Answer). a.steps) e, ap (λ (a : Answer). a.span) e, ap (λ (a : Answer). a.bytes) e, ap (λ (a : Answer). a.answer) e, Running.area-refused book query budget area space n, Running.answer-area-refused book query budget area space n)
  ]

  pub run-place : 20 ≤ answer.code → answer.place ≡ 0
  run-place h = ap (λ (a : Answer). a.place) (Running.answer-taken book query budget area space (taken-by-code book query budget area space h))

  pub run_short : answer.code ≡ 1 → answer.place ≡ 0
  run_short e = elim (ℕ_discrete code 0) [
    | yes z ↦ absurd (omega (arith, e, run-high book query area space budget z))
    | no n ↦ let r = Running.answer-refused book query budget area space n in ap (λ (a : Answer). a.place) r ∙ short-place book query (room area space) (inv (ap (λ (a : Answer). a.code) r) ∙ e)
  ]

  pub run-span : (answer.code ≡ 21 → ⊥) → answer.span ≡ 0
  run-span other = elim (ℕ_discrete code 0) [
    | yes z ↦
        let e = Running.answer-taken book query budget area space z in
        ap (λ (a : Answer). a.span) e ∙ answers-span (book_of book) budget (goal_of query) (closing book query budget) (answered-runs (book_of book) budget (goal_of query)) (λ c. other (ap (λ (a : Answer). a.code) e ∙ c))
    | no n ↦ ap (λ (a : Answer). a.span) (Running.answer-refused book query budget area space n)
  ]

-- The single step.
module _ (book query area : List ℕ) where
  abbrev stepped : Stepped
  stepped = step_answer book query area

  pub step-refuses : stepped.code < 20 → (stepped.steps ≡ 0) × (stepped.span ≡ 0) × (stepped.bytes ≡ 0) × (stepped.clause ≡ 0) × (step_area book query area ≡ area)
  step-refuses l = elim (ℕ_discrete (refusal book query (length area)).code 0) [
    | yes z ↦ absurd (omega (arith, step-high book query area z))
    | no n ↦
        let e = Stepping.answer-refused book query area n in
        (ap (λ (a : Stepped). a.steps) e, ap (λ (a : Stepped). a.span) e, ap (λ (a : Stepped). a.bytes) e, ap (λ (a : Stepped). a.clause) e, Stepping.area-refused book query area n)
  ]

  pub step-place : 20 ≤ stepped.code → stepped.place ≡ 0
  step-place h = ap (λ (a : Stepped). a.place) (Stepping.answer-taken book query area (step-taken book query area h))

  pub step-short : stepped.code ≡ 1 → stepped.place ≡ 0
  step-short e = elim (ℕ_discrete (refusal book query (length area)).code 0) [
    | yes z ↦ absurd (omega (arith, e, step-high book query area z))
    | no n ↦ let r = Stepping.answer-refused book query area n in ap (λ (a : Stepped). a.place) r ∙ short-place book query (length area) (inv (ap (λ (a : Stepped). a.code) r) ∙ e)
  ]

  pub step-span : stepped.span ≡ 0
  step-span = elim (ℕ_discrete (refusal book query (length area)).code 0) [
    | yes z ↦ ap (λ (a : Stepped). a.span) (Stepping.answer-taken book query area z)
    | no n ↦ ap (λ (a : Stepped). a.span) (Stepping.answer-refused book query area n)
  ]
