-- How big the figures of an answer are: codes up to 19 refuse, codes from 20 on do not; a place and a number of bytes are small.
use Rattle.std.specs.Prelude.{ℕ, zero, suc, ◌≤◌, ◌<◌, ◌≡◌, true, List, length}
use Rattle.std.proofs.Common.{arith, sym as inv, ap, ◌∙◌, inl, inr}
use Rattle.std.proofs.Math.Decide.{dec_lt, ℕ_discrete}
use Rattle.std.proofs.Math.Option.{some, some-injective}
use Rattle.loops.specs.Path.{path-zero}
use Rattle.search.specs.Next.{Book, Goal}
use Rattle.search.specs.Step.{next_goal}
use Rattle.search.specs.Room.{fits, fits_iff}
use Rattle.search.specs.Run.{goal_at, Closes, code_20, code_21, code_22, code_23, code_24, code_26}
use Rattle.search.specs.Answer.{Answered, answered, Ends, as_before, code_27, Answers}
use Rattle.search.proofs.AnswerLaws.{answered-runs}
use Rattle.search.proofs.AnswerRuns.{answers-goal}
use Rattle.words.specs.Flat.{flat, flat-size}
use Rattle.format.specs.Reading.{book_verdict, query_verdict}
use Rattle.format.specs.Format.{encode_goal, Bytes}
use Rattle.format.specs.Decode.{book_of, goal_of}
use Rattle.format.proofs.Codes.{Coded, book-coded, query-coded}
use Rattle.format.proofs.Lengths.{nodes-short}
use Rattle.format.proofs.Decoding.{goal_of-good}
use Rattle.format.proofs.Premises.{goal_premises}
use Rattle.areas.proofs.Places.{book-place, query-place}
use Rattle.outcomes.specs.declared.Answer.{Answer}
use Rattle.outcomes.specs.declared.admit.Admitted.{Admitted}
use Rattle.outcomes.specs.Outcome.{refusal, room, closing, run_answer}
use Rattle.outcomes.specs.Refusals.{not-refused, area-short, book_decides, query_decides}
use Rattle.outcomes.specs.Running.{answer-refused, answer-taken}
use Rattle.outcomes.specs.Firmware.{Narrow}

-- a check's code is small
coded-low : (least code : ℕ) → least ≤ 12 → Coded least code → code ≤ 17
coded-low least code l (inl z) = omega arith
coded-low least code l (inr k) = omega (arith, k.1)

-- a refusal's code is below 20, and its place small
pub record Low (r : Admitted) : Type 0 where
  pub code : r.code ≤ 17
  pub place : r.place ≤ 32768

pub refusal-low : (book query : List ℕ) (room : ℕ) → Low (refusal book query room)
refusal-low book query room = elim (dec_lt room 16387) [
  | yes p ↦ rw (area-short book query room p) (record { code = omega arith; place = omega arith })
  | no p ↦
      elim (ℕ_discrete (book_verdict book).code 0) [
        | yes z ↦ rw (query_decides book query room (omega arith) z) (record { code = coded-low 12 (query_verdict book query).code (omega arith) (query-coded book query z); place = omega (arith, query-place book query z) })
        | no z ↦ rw (book_decides book query room (omega arith) z) (record { code = coded-low 2 (book_verdict book).code (omega arith) (book-coded book); place = book-place book })
      ]
]

-- How a run closes: 25 is the single step's.
pub data RunCode : ℕ → Type 0 where
  closed : {c : ℕ} → 20 ≤ c → c ≤ 24 → RunCode c
  unknown : RunCode 26
  over : RunCode 27

pub run-code-between : {c : ℕ} → RunCode c → (20 ≤ c) × (c ≤ 27)
run-code-between (closed l h) = (l, omega arith)
run-code-between unknown = (omega arith, omega arith)
run-code-between over = (omega arith, omega arith)

closes-code : {P : Book} {budget : ℕ} {s : _} {c n : ℕ} → Closes P budget s c n → RunCode c
closes-code (code_20 f) = closed {c = 20} (omega arith) (omega arith)
closes-code (code_21 f) = closed {c = 21} (omega arith) (omega arith)
closes-code (code_22 f k) = closed {c = 22} (omega arith) (omega arith)
closes-code (code_23 f l) = closed {c = 23} (omega arith) (omega arith)
closes-code (code_24 f l h) = closed {c = 24} (omega arith) (omega arith)
closes-code (code_26 f n) = unknown

ends-code : {P : Book} {q : Goal} {budget : ℕ} {s : _} {c n : ℕ} → Ends P q budget s c n → RunCode c
ends-code (as_before x) = closes-code x
ends-code (code_27 f l h m) = over

-- The length of an image: at most four bytes to a node.
pub image-short : (g : Goal) → fits g ≡ true → length (encode_goal g) ≤ 16387
image-short g f = omega (arith, nodes-short (flat g), flat-size g, ((fits_iff g).0 f).1)

module _ (P : Book) (budget : ℕ) (q : Goal) where
  abbrev last : Answered
  last = answered P budget q

  abbrev runs : Answers P budget q last
  runs = answered-runs P budget q

  pub run-codes : RunCode last.code
  run-codes = ends-code runs.ends

  pub run-allowed : last.steps ≤ budget
  run-allowed = runs.allowed

  -- the last goal has room, as the query has
  pub run_fits : fits q ≡ true → fits last.goal ≡ true
  run_fits ok = at-step last.steps (answers-goal P budget q last runs) runs.roomy
    where
      at-step : (t : ℕ) → goal_at P q t ≡ some last.goal → ((j : ℕ) (g : Goal) → 0 < j → j ≤ t → goal_at P q j ≡ some g → fits g ≡ true) → fits last.goal ≡ true
      at-step zero e room = ap fits (inv (some-injective q last.goal (inv (path-zero (next_goal P) q) ∙ e))) ∙ ok
      at-step (suc t) e room = room (suc t) last.goal (omega arith) (omega arith) e

-- An answer's figures.
module _ (book query : List ℕ) (budget : ℕ) (area space : List ℕ) where
  abbrev answer : Answer
  answer = run_answer book query budget area space

  -- what is answered with a code from 20 up is not refused
  pub taken-by-code : 20 ≤ answer.code → (refusal book query (room area space)).code ≡ 0
  taken-by-code h = elim (ℕ_discrete (refusal book query (room area space)).code 0) [
    | yes z ↦ z
    | no n ↦ absurd (omega (arith, h, ap (λ (a : Answer). a.code) (answer-refused book query budget area space n), (refusal-low book query (room area space)).code))
  ]

  pub run-narrow : Bytes query → Narrow answer
  run-narrow bytes = elim (ℕ_discrete (refusal book query (room area space)).code 0) [
    | yes z ↦ rw (answer-taken book query budget area space z) (record { place = omega arith; bytes = omega (arith, image-short (closing book query budget).goal (run_fits (book_of book) budget (goal_of query) (good-fits z))) })
    | no n ↦ rw (answer-refused book query budget area space n) (record { place = omega (arith, (refusal-low book query (room area space)).place); bytes = omega arith })
  ]
    where
      good-fits : (refusal book query (room area space)).code ≡ 0 → fits (goal_of query) ≡ true
      good-fits z = (goal_premises (goal_of query) (goal_of-good book query bytes (not-refused book query (room area space) z).query_good).0).2

  pub answer-code : answer.code ≤ 27
  answer-code = elim (ℕ_discrete (refusal book query (room area space)).code 0) [
    | yes z ↦ rw (answer-taken book query budget area space z) (run-code-between (run-codes (book_of book) budget (goal_of query))).1
    | no n ↦ rw (answer-refused book query budget area space n) (omega (arith, (refusal-low book query (room area space)).code))
  ]
