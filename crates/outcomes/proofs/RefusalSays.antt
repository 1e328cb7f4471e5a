-- What a refusal says, of bytes and in plain figures: "Order: area; whole book; whole query." "Codes 1 to 19 refuse the input .. and give steps, span, bytes and every count 0."
-- "An entry that refuses its input changes nothing in any lent area". A fault of a book or a query is told by what books and queries are (format, Faulty).
use Rattle.std.specs.Prelude.{ℕ, ◌≤◌, ◌<◌, ◌≡◌, refl, List, [], length}
use Rattle.std.proofs.Common.{arith, sym as inv, ap, ◌∙◌, subst}
use Rattle.std.proofs.Math.Decide.{dec_lt, ℕ_discrete}
use Rattle.format.specs.declared.Form.TheVariants.{Book, Query}
use Rattle.format.specs.Reading.{book_verdict, query_verdict}
use Rattle.format.specs.Format.{Bytes}
use Rattle.format.specs.Faulty.{Faulty, Good}
use Rattle.format.specs.Arities.{book_uses}
use Rattle.format.specs.Decode.{book_of}
use Rattle.format.proofs.Meaning.{one_none, book_good}
use Rattle.format.proofs.Refusals.{refused_iff, query-refused_iff}
use Rattle.outcomes.specs.declared.Answer.{Answer}
use Rattle.outcomes.specs.declared.Stepped.{Stepped}
use Rattle.outcomes.specs.declared.admit.Admitted.{Admitted}
use Rattle.outcomes.specs.Outcome.{refusal, room, refused, run_answer, run_area, run_answer_area, step_refused, step_answer, step_area}
use Rattle.outcomes.specs.Refusals.{area-short, book_decides, query_decides}
use Rattle.outcomes.proofs.Listed.{step-high, run-high}
use Rattle.outcomes.specs.Stepping as Stepping
use Rattle.outcomes.specs.Running as Running

-- an entry that is lent so much room refuses with a code and a place
pub data RefusalSays (book query : List ℕ) (lent : ℕ) : ℕ → ℕ → Type 0 where
  -- "Goal area: at least 16,387 bytes."
  short : lent < 16387 → RefusalSays book query lent 1 0
  bad_book : {code place : ℕ} → 16387 ≤ lent → Faulty Book [] book code place → RefusalSays book query lent code place
  -- a query is held to the arities that its book uses
  bad_query : {code place : ℕ} → 16387 ≤ lent → Good Book [] book → Faulty Query (book_uses (book_of book)) query code place → RefusalSays book query lent code place

module _ (book query : List ℕ) (book-bytes : Bytes book) (query-bytes : Bytes query) where
  -- what refuses is said
  said : (lent : ℕ) → ((refusal book query lent).code ≡ 0 → ⊥) → RefusalSays book query lent (refusal book query lent).code (refusal book query lent).place
  said lent n = elim (dec_lt lent 16387) [
    | yes s ↦ rw (area-short book query lent s) (short s)
    | no s ↦
        let long : 16387 ≤ lent = omega arith in
        elim (ℕ_discrete (book_verdict book).code 0) [
          | yes z ↦
              let e = query_decides book query lent long z in
              subst (λ (r : Admitted). RefusalSays book query lent r.code r.place) (inv e)
              (bad_query long ((book_good book book-bytes).0 z) ((query-refused_iff book query book-bytes z query-bytes (query_verdict book query).code (query_verdict book query).place).0 (λ w. n (ap (λ (r : Admitted). r.code) e ∙ w), refl, refl)))
          | no m ↦ rw (book_decides book query lent long m) (bad_book long ((refused_iff Book [] one_none book book-bytes (book_verdict book).code (book_verdict book).place).0 (m, refl, refl)))
        ]
  ]

  -- and what is said refuses
  refuses : (lent : ℕ) {code place : ℕ} → RefusalSays book query lent code place → (code ≡ 0 → ⊥) × (refusal book query lent ≡ record { code = code; place = place })
  refuses lent (short s) = ((λ z. omega arith), area-short book query lent s)
  refuses lent (bad_book {code} {place} long f) =
      let a = (refused_iff Book [] one_none book book-bytes code place).1 f in
      (a.0, book_decides book query lent long (λ z. a.0 (inv a.1 ∙ z)) ∙ (λ i. record { code = a.1 i; place = a.2 i }))
  refuses lent (bad_query {code} {place} long g f) =
      let z = (book_good book book-bytes).1 g in
      let a = (query-refused_iff book query book-bytes z query-bytes code place).1 f in
      (a.0, query_decides book query lent long z ∙ (λ i. record { code = a.1 i; place = a.2 i }))

  not_taken : {lent code place : ℕ} → RefusalSays book query lent code place → (refusal book query lent).code ≡ 0 → ⊥
  not_taken {lent} s z = let r = refuses lent s in r.0 (inv (ap (λ (r : Admitted). r.code) r.1) ∙ z)

  -- a run is lent as much room as the shorter of its areas has
  pub run-refused : (area space : List ℕ) {code place : ℕ} → RefusalSays book query (room area space) code place → (budget : ℕ)
      → (run_answer book query budget area space ≡ record { code = code; place = place; steps = 0; span = 0; bytes = 0; answer = 0; furthest = 0; argument = 0 }) × (run_area book query budget area space ≡ area) × (run_answer_area book query budget area space ≡ space)
  run-refused area space s budget =
      let n = not_taken s in
      (Running.answer-refused book query budget area space n ∙ ap refused (refuses (room area space) s).1, Running.area-refused book query budget area space n, Running.answer-area-refused book query budget area space n)

  module _ (area : List ℕ) {code place : ℕ} (s : RefusalSays book query (length area) code place) where
    pub step-refused : (step_answer book query area ≡ record { code = code; place = place; steps = 0; span = 0; bytes = 0; clause = 0; furthest = 0; argument = 0 }) × (step_area book query area ≡ area)
    step-refused = (Stepping.answer-refused book query area (not_taken s) ∙ ap step_refused (refuses (length area) s).1, Stepping.area-refused book query area (not_taken s))

  -- a code below 20 says so
  pub run-refusal : (area space : List ℕ) (budget : ℕ) → (run_answer book query budget area space).code < 20 → RefusalSays book query (room area space) (run_answer book query budget area space).code (run_answer book query budget area space).place
  run-refusal area space budget l =
      let n : (refusal book query (room area space)).code ≡ 0 → ⊥ = λ z. omega (arith, l, run-high book query area space budget z) in
      subst (λ (a : Answer). RefusalSays book query (room area space) a.code a.place) (inv (Running.answer-refused book query budget area space n)) (said (room area space) n)

  module _ (area : List ℕ) where
    pub step-refusal : (step_answer book query area).code < 20 → RefusalSays book query (length area) (step_answer book query area).code (step_answer book query area).place
    step-refusal l =
        let n : (refusal book query (length area)).code ≡ 0 → ⊥ = λ z. omega (arith, l, step-high book query area z) in
        subst (λ (a : Stepped). RefusalSays book query (length area) a.code a.place) (inv (Stepping.answer-refused book query area n)) (said (length area) n)
