-- The pick, case by case, and that picking and then applying is the single step, over bytes (document 02, C-16): "The run and the old step are to be built on these."
use Rattle.std.specs.Prelude.{ℕ, ◌≤◌, ◌<◌, ◌≡◌, refl, Bool, true, false, List, [], ◌∷◌, ltb, length}
use Rattle.std.proofs.Common.{arith, le-ltb, eq-eqb, ne_eqb, sym as inv, ap, ◌∙◌}
use Rattle.std.proofs.Math.Decide.{ℕ_discrete}
use Rattle.terms.specs.When.{◌⇒◌∣◌}
use Rattle.search.specs.Next.{Book, Goal, clause_at}
use Rattle.search.specs.Step.{Step, solved, stuck, to, next}
use Rattle.search.specs.Room.{fits}
use Rattle.search.specs.Furthest.{Figures, no_figures, figures, figures-other}
use Rattle.search.specs.Single.{Single, not_taken, if_fits, step}
use Rattle.search.specs.Pick.{pick, applied, apply_by}
use Rattle.search.proofs.PickLaws.{two_calls}
use Rattle.format.specs.Decode.{book_of, goal_of}
use Rattle.outcomes.specs.declared.admit.Admitted.{Admitted}
use Rattle.outcomes.specs.declared.Picked.{Picked}
use Rattle.outcomes.specs.declared.Stepped.{Stepped}
use Rattle.outcomes.specs.Outcome.{refusal, step_refused, stepped, step_said, leaves, single_answer, single_area, step_answer, step_area, apply_answer, apply_area, pick_said, pick_refused, pick_answer}
use Rattle.outcomes.specs.Refusals.{area-short}
use Rattle.outcomes.specs.Stepping.{not_stepped, answer-refused, area-refused, answer-taken, area-taken}
use Rattle.outcomes.proofs.Figures.{refusal-low}

module _ (book query : List ℕ) where
  pub pick-refused : ((refusal book query 16387).code ≡ 0 → ⊥) → pick_answer book query ≡ pick_refused (refusal book query 16387)
  unfolding pick_answer
  pick-refused n = simp (ne_eqb (refusal book query 16387).code 0 n)

  pub pick-taken : (refusal book query 16387).code ≡ 0 → pick_answer book query ≡ pick_said (book_of book) (goal_of query) (pick (book_of book) (goal_of query))
  unfolding pick_answer
  pick-taken z = simp (eq-eqb (refusal book query 16387).code 0 z)

  -- what is refused does not depend on the area, where it is long enough
  pub room-alike : (room : ℕ) → 16387 ≤ room → refusal book query room ≡ refusal book query 16387
  unfolding refusal
  room-alike room l = simp (le-ltb room 16387 l)

-- the figures of a pick
abbrev pub figured : Picked → Figures
figured r = record { clause = r.furthest; argument = r.argument }

-- the apply call has none: its codes are others
pub apply-bare : (P : Book) (g : Goal) (k : ℕ) → figures P (apply_by P g k).code g ≡ no_figures
apply-bare P g k = figures-other P (apply_by P g k).code g (not_22 g)
  where
    by-room : (h : Goal) (b : Bool) → ¬ ((if_fits b k h).code ≡ 22)
    by-room h true e = omega arith
    by-room h false e = omega arith

    by_clause : (s : Step) → ¬ ((applied k s).code ≡ 22)
    by_clause solved e = omega arith
    by_clause stuck e = omega arith
    by_clause (to j h) e = by-room h (fits h) e

    inside : (s : Single) → ¬ (s.code ≡ 22) → (b : Bool) → ¬ ((b ⇒ s ∣ not_taken 32).code ≡ 22)
    inside s n true e = n e
    inside s n false e = omega arith

    not_22 : (g : Goal) → ¬ ((apply_by P g k).code ≡ 22)
    not_22 [] e = omega arith
    not_22 (f ∷ r) e = inside (applied k (next (clause_at P k ∷ []) (f ∷ r))) (by_clause (next (clause_at P k ∷ []) (f ∷ r))) (ltb k (length P)) e

-- the step by the two calls, on goals
picked-step : (P : Book) (g : Goal) → (pick P g).code ≡ 25 → step P g ≡ apply_by P g (pick P g).clause
picked-step P g e = two_calls P g ∙ rw (eq-eqb (pick P g).code 25 e) refl

unpicked_step : (P : Book) (g : Goal) → ((pick P g).code ≡ 25 → ⊥) → step P g ≡ not_taken (pick P g).code
unpicked_step P g n = two_calls P g ∙ rw (ne_eqb (pick P g).code 25 n) refl

module _ (book query area : List ℕ) where
  abbrev P : Book
  P = book_of book

  abbrev q : Goal
  q = goal_of query

  abbrev picked : Picked
  picked = pick_answer book query

  -- an area that is too short
  pub step-of-short : length area < 16387 → (step_answer book query area ≡ not_stepped 1 0 no_figures) × (step_area book query area ≡ area)
  step-of-short l =
      let e = area-short book query (length area) l in
      let n : (refusal book query (length area)).code ≡ 0 → ⊥ = λ z. omega (arith, z, ap (λ (a : Admitted). a.code) e) in
      (answer-refused book query area n ∙ ap step_refused e, area-refused book query area n)

  module _ (long : 16387 ≤ length area) where
    alike : refusal book query (length area) ≡ refusal book query 16387
    alike = room-alike book query (length area) long

    -- a code that is no refusal's is the pick's own
    taken_pick : picked.code ≡ 25 → (refusal book query 16387).code ≡ 0
    taken_pick e = elim (ℕ_discrete (refusal book query 16387).code 0) [
      | yes z ↦ z
      | no n ↦ absurd (omega (arith, e, ap (λ (r : Picked). r.code) (pick-refused book query n), (refusal-low book query 16387).code))
    ]

    -- where a clause is picked, the step is the apply call by that clause
    pub step-picked : picked.code ≡ 25 → (step_answer book query area ≡ apply_answer book query picked.clause area) × (step_area book query area ≡ apply_area book query picked.clause area)
    step-picked e =
        let is = pick-taken book query (taken_pick e) in
        let s = picked-step P q (inv (ap (λ (r : Picked). r.code) is) ∙ e) ∙ ap (λ (r : Picked). apply_by P q r.clause) (inv is) in
        (ap (single_answer book query area) (ap (step_said P q) s ∙ ap (λ w. stepped w (apply_by P q picked.clause)) (apply-bare P q picked.clause)), ap (single_area book query area) s)

    -- and where none is, it answers what the pick answers
    pub step_unpicked : (picked.code ≡ 25 → ⊥) → (step_answer book query area ≡ not_stepped picked.code picked.place (figured picked)) × (step_area book query area ≡ area)
    step_unpicked n = elim (ℕ_discrete (refusal book query 16387).code 0) [
      | yes z ↦
          let is = pick-taken book query z in
          let y : (refusal book query (length area)).code ≡ 0 = ap (λ (a : Admitted). a.code) alike ∙ z in
          let s = unpicked_step P q (λ e. n (ap (λ (r : Picked). r.code) is ∙ e)) in (
            answer-taken book query area y ∙ ap (step_said P q) s ∙ ap (λ (r : Picked). not_stepped r.code r.place (figured r)) (inv is),
            area-taken book query area y ∙ ap (λ (x : Single). leaves x.written area) s,
          )
      | no x ↦
          let y : (refusal book query (length area)).code ≡ 0 → ⊥ = λ z. x (inv (ap (λ (a : Admitted). a.code) alike) ∙ z) in (
            answer-refused book query area y ∙ ap step_refused alike ∙ ap (λ (r : Picked). not_stepped r.code r.place (figured r)) (inv (pick-refused book query x)),
            area-refused book query area y,
          )
    ]

    -- the two as the step answers them, from what the pick answered
    module _ {r : Picked} (is : r ≡ picked) where
      pub answers-picked : r.code ≡ 25 → {a : Stepped} {after : List ℕ} → a ≡ apply_answer book query r.clause area → after ≡ apply_area book query r.clause area
          → (a ≡ step_answer book query area) × (after ≡ step_area book query area)
      answers-picked e p q =
          let s = step-picked (inv (ap (λ (x : Picked). x.code) is) ∙ e) in (
            p ∙ ap (λ (x : Picked). apply_answer book query x.clause area) is ∙ inv s.0,
            q ∙ ap (λ (x : Picked). apply_area book query x.clause area) is ∙ inv s.1,
          )

      pub answers_unpicked : (r.code ≡ 25 → ⊥) → {a : Stepped} → a ≡ not_stepped r.code r.place (figured r) → (a ≡ step_answer book query area) × (area ≡ step_area book query area)
      answers_unpicked n p =
          let s = step_unpicked (λ e. n (ap (λ (x : Picked). x.code) is ∙ e)) in
          (p ∙ ap (λ (x : Picked). not_stepped x.code x.place (figured x)) is ∙ inv s.0, inv s.1)
