-- The ways out of each entry of the flat profile, refused or not, and how big its figures are.
use Rattle.std.specs.Prelude.{ℕ, ◌≤◌, ◌<◌, ◌≡◌, refl, List, length, eqb, ltb}
use Rattle.std.proofs.Common.{arith, lt-ltb, le-ltb, ltb-true, ltb-false, eq-eqb, ne_eqb, eqb-true, sym as inv, ap, ◌∙◌}
use Rattle.std.proofs.Math.Decide.{ℕ_discrete}
use Rattle.terms.specs.Cases.{cases}
use Rattle.search.specs.Step.{Step, solved, stuck, to, next_from}
use Rattle.search.specs.Room.{fits}
use Rattle.search.specs.Known.{stuck_code}
use Rattle.search.specs.Furthest.{Figures, figures}
use Rattle.search.specs.Single.{single}
use Rattle.format.specs.declared.Check.{Check}
use Rattle.format.specs.declared.Form.TheVariants.{Book, Query}
use Rattle.format.specs.Reading.{verdict, met, book_verdict}
use Rattle.format.specs.Format.{Bytes}
use Rattle.format.specs.Arities.{nothing_met}
use Rattle.format.specs.Decode.{book_of, goal_of}
use Rattle.format.proofs.Meaning.{query-verdict}
use Rattle.areas.proofs.Places.{book-place, query-place}
use Rattle.flatness.specs.Profile.{compound_from, allowed_up_to, flat_check_of, book_flat, query_flat}
use Rattle.flatness.proofs.Places.{verdict-within}
use Rattle.flatness.proofs.Flattened.{of-long, of-found, of_none}
use Rattle.flatness.proofs.Refusals.{book-flat-good}
use Rattle.outcomes.specs.declared.admit.Admitted.{Admitted}
use Rattle.outcomes.specs.declared.Answer.{Answer}
use Rattle.outcomes.specs.Outcome.{refusal, room, refused, stepped, step_refused, run_answer, run_area, run_answer_area, step_answer, step_area}
use Rattle.outcomes.specs.Refusals.{area-short}
use Rattle.outcomes.specs.Running as Running
use Rattle.outcomes.specs.Stepping as Stepping
use Rattle.outcomes.proofs.Figures.{run-narrow, refusal-low, image-short}
use Rattle.outcomes.specs.Firmware.{Narrow}
use Rattle.outcomes.specs.CallNumbers.{ApplyNarrow}
use Rattle.flatly.specs.Outcome.{flat_refusal, flat_run_answer, flat_run_area, flat_run_answer_area, flat_step_answer, flat_step_area}

-- Refusals

module _ (book query : List ℕ) where
  pub short-area : (room : ℕ) → room < 16387 → flat_refusal book query room ≡ record { code = 1; place = 0 }
  unfolding flat_refusal
  short-area room l = simp (lt-ltb room 16387 l)

  pub by_checks : (room : ℕ) → 16387 ≤ room → flat_refusal book query room ≡ record { code = (query_flat book query).code; place = (query_flat book query).place }
  unfolding flat_refusal
  by_checks room l = simp (le-ltb room 16387 l)

  -- by what the flat check of the query has found
  pub by-found : (room : ℕ) (c : Check) → 16387 ≤ room → c ≡ query_flat book query → record { code = c.code; place = c.place } ≡ flat_refusal book query room
  by-found room c l e = ap (λ (x : Check). record { code = x.code; place = x.place }) e ∙ inv (by_checks room l)

  pub code-found : (room : ℕ) (a : Admitted) → a ≡ flat_refusal book query room → (a.code ≡ 0 → ⊥) → (flat_refusal book query room).code ≡ 0 → ⊥
  code-found room a e n z = n (ap (λ (x : Admitted). x.code) e ∙ z)

  -- too short an area is refused as the plain entries refuse it
  pub short-same : (room : ℕ) → room < 16387 → refusal book query room ≡ flat_refusal book query room
  short-same room l = area-short book query room l ∙ inv (short-area room l)

  pub short-code : (room : ℕ) → room < 16387 → (flat_refusal book query room).code ≡ 0 → ⊥
  short-code room l z = omega (arith, ap (λ (a : Admitted). a.code) (short-area room l), z)

-- a flat check's place is in the input, or at its limit
flat-of-place : (base limit : ℕ) (plain : Check) (s : List ℕ) → plain.place ≤ limit → (length s ≤ limit → allowed_up_to base plain (length s) ≤ length s) → (flat_check_of base limit plain s).place ≤ limit
flat-of-place base limit plain s p within = cases (ltb limit (length s))
    (λ t. rw (← of-long base limit plain s (ltb-true limit (length s) t)) p)
    (λ t.
    let short = ltb-false limit (length s) t in
    let end = allowed_up_to base plain (length s) in
    let place = compound_from (length s) s 0 end in
    let most = within short in
    cases (ltb place end)
    (λ u. rw (← of-found base limit plain s short end place refl refl (ltb-true place end u)) (omega (arith, ltb-true place end u, most, short)))
    (λ u. rw (← of_none base limit plain s short end place refl refl (ltb-false place end u)) p))

pub book-flat-place : (book : List ℕ) → (book_flat book).place ≤ 32768
book-flat-place book = flat-of-place 0 32768 (book_verdict book) book (book-place book) (verdict-within Book book nothing_met)

module _ (book query : List ℕ) (book-bytes : Bytes book) where
  pub query-flat-place : (query_flat book query).place ≤ 32768
  unfolding query_flat
  query-flat-place = cases (eqb (book_flat book).code 0)
      (λ t.
      let v = book-flat-good book book-bytes (eqb-true (book_flat book).code 0 t) in
      let p = rw (query-verdict book query v) at (query-place book query v) in
      simp t (omega (arith, flat-of-place 10 16387 (verdict Query (met book) query) query p (verdict-within Query query (met book)))))
      (λ t. simp t (book-flat-place book))

  pub refusal-place : (room : ℕ) → (flat_refusal book query room).place ≤ 32768
  refusal-place room = cases (ltb room 16387)
      (λ t. rw (short-area book query room (ltb-true room 16387 t)) (omega arith))
      (λ t. rw (by_checks book query room (ltb-false room 16387 t)) query-flat-place)

-- The run

module _ (book query : List ℕ) (budget : ℕ) (area space : List ℕ) where
  abbrev answer : Answer
  answer = flat_run_answer book query budget area space

  abbrev refusing : Admitted
  refusing = flat_refusal book query (room area space)

  module _ (z : refusing.code ≡ 0) where
    pub run_taken : answer ≡ run_answer book query budget area space
    unfolding flat_run_answer
    run_taken = simp (eq-eqb refusing.code 0 z)

    pub run-area-taken : flat_run_area book query budget area space ≡ run_area book query budget area space
    unfolding flat_run_area
    run-area-taken = simp (eq-eqb refusing.code 0 z)

    pub run-answer-area-taken : flat_run_answer_area book query budget area space ≡ run_answer_area book query budget area space
    unfolding flat_run_answer_area
    run-answer-area-taken = simp (eq-eqb refusing.code 0 z)

  module _ (n : refusing.code ≡ 0 → ⊥) where
    pub run-refused : answer ≡ refused refusing
    unfolding flat_run_answer
    run-refused = simp (ne_eqb refusing.code 0 n)

    pub run-area-kept : flat_run_area book query budget area space ≡ area
    unfolding flat_run_area
    run-area-kept = simp (ne_eqb refusing.code 0 n)

    pub run-answer-area-kept : flat_run_answer_area book query budget area space ≡ space
    unfolding flat_run_answer_area
    run-answer-area-kept = simp (ne_eqb refusing.code 0 n)

  -- an area is too short
  module _ (l : room area space < 16387) where
    plain_code : (refusal book query (room area space)).code ≡ 0 → ⊥
    plain_code z = short-code book query (room area space) l (inv (ap (λ (a : Admitted). a.code) (short-same book query (room area space) l)) ∙ z)

    pub run_short : (run_answer book query budget area space ≡ answer) × (run_area book query budget area space ≡ flat_run_area book query budget area space) × (run_answer_area book query budget area space ≡ flat_run_answer_area book query budget area space)
    run_short =
        let n = short-code book query (room area space) l in (
          Running.answer-refused book query budget area space plain_code ∙ ap refused (short-same book query (room area space) l) ∙ inv (run-refused n),
          Running.area-refused book query budget area space plain_code ∙ inv (run-area-kept n),
          Running.answer-area-refused book query budget area space plain_code ∙ inv (run-answer-area-kept n),
        )

  pub flat-run-narrow : Bytes book → Bytes query → Narrow answer
  flat-run-narrow book-bytes query-bytes = elim (ℕ_discrete refusing.code 0) [
    | yes z ↦ rw (run_taken z) (run-narrow book query budget area space query-bytes)
    | no n ↦ rw (run-refused n) (record { place = omega (arith, refusal-place book query book-bytes (room area space)); bytes = omega arith })
  ]

-- The single step

single-narrow : (w : Figures) (c : ℕ) (s : Step) → ApplyNarrow (stepped w (single c s))
single-narrow w c solved = record { place = omega arith; bytes = omega arith }
single-narrow w c stuck = record { place = omega arith; bytes = omega arith }
single-narrow w c (to k h) = cases (fits h) (λ e. rw e (record { place = omega arith; bytes = omega (arith, image-short h e) })) (λ e. rw e (record { place = omega arith; bytes = omega arith }))

module _ (book query area : List ℕ) where
  abbrev step_refusing : Admitted
  step_refusing = flat_refusal book query (length area)

  module _ (z : step_refusing.code ≡ 0) where
    pub step-taken : flat_step_answer book query area ≡ step_answer book query area
    unfolding flat_step_answer
    step-taken = simp (eq-eqb step_refusing.code 0 z)

    pub step-area-taken : flat_step_area book query area ≡ step_area book query area
    unfolding flat_step_area
    step-area-taken = simp (eq-eqb step_refusing.code 0 z)

  module _ (n : step_refusing.code ≡ 0 → ⊥) where
    pub step-refused : flat_step_answer book query area ≡ step_refused step_refusing
    unfolding flat_step_answer
    step-refused = simp (ne_eqb step_refusing.code 0 n)

    pub step-area-kept : flat_step_area book query area ≡ area
    unfolding flat_step_area
    step-area-kept = simp (ne_eqb step_refusing.code 0 n)

  module _ (l : length area < 16387) where
    step-plain-code : (refusal book query (length area)).code ≡ 0 → ⊥
    step-plain-code z = short-code book query (length area) l (inv (ap (λ (a : Admitted). a.code) (short-same book query (length area) l)) ∙ z)

    pub step-short : (step_answer book query area ≡ flat_step_answer book query area) × (step_area book query area ≡ flat_step_area book query area)
    step-short =
        let n = short-code book query (length area) l in (
          Stepping.answer-refused book query area step-plain-code ∙ ap step_refused (short-same book query (length area) l) ∙ inv (step-refused n),
          Stepping.area-refused book query area step-plain-code ∙ inv (step-area-kept n),
        )

  plain-narrow : ApplyNarrow (step_answer book query area)
  plain-narrow = elim (ℕ_discrete (refusal book query (length area)).code 0) [
    | yes z ↦ (
        let P = book_of book in
        let g = goal_of query in
        let s = next_from 0 P g in
        rw (Stepping.answer-taken book query area z) (single-narrow (figures P (single (stuck_code P g) s).code g) (stuck_code P g) s))
    | no n ↦ rw (Stepping.answer-refused book query area n) (record { place = omega (arith, (refusal-low book query (length area)).place); bytes = omega arith })
  ]

  pub flat-step-narrow : Bytes book → ApplyNarrow (flat_step_answer book query area)
  flat-step-narrow book-bytes = elim (ℕ_discrete step_refusing.code 0) [
    | yes z ↦ rw (step-taken z) plain-narrow
    | no n ↦ rw (step-refused n) (record { place = omega (arith, refusal-place book query book-bytes (length area)); bytes = omega arith })
  ]
