-- The figures of the two calls of a single step (document 02, C-16): where they are 0, how big they are, and when the area stays as it was. "The pick .. never writes; its steps are 0.
-- The apply call answers 25 with steps 1 and its clause number and writes the next goal, or is refused and writes nothing."
use Rattle.std.specs.Prelude.{ℕ, ◌^◌, ◌≤◌, ◌<◌, ◌≡◌, refl, true, List, [], ◌∷◌, length}
use Rattle.std.proofs.Common.{arith, lt-ltb, le-ltb, ap}
use Rattle.std.proofs.Math.Decide.{ℕ_discrete, dec_lt}
use Rattle.terms.specs.Cases.{cases}
use Rattle.search.specs.Next.{Book, Goal, clause_at}
use Rattle.search.specs.Room.{fits}
use Rattle.search.specs.Step.{Step, solved, stuck, to, next}
use Rattle.search.specs.Known.{stuck_code}
use Rattle.search.specs.Furthest.{no_figures}
use Rattle.search.specs.Single.{Single, not_taken, taken}
use Rattle.search.specs.Pick.{picked, applied, apply_by}
use Rattle.format.specs.Format.{Bytes}
use Rattle.format.specs.Decode.{book_of, goal_of}
use Rattle.format.proofs.Premises.{goal_premises}
use Rattle.outcomes.specs.declared.Picked.{Picked}
use Rattle.outcomes.specs.declared.Stepped.{Stepped}
use Rattle.outcomes.specs.Outcome.{refusal, stepped, leaves, pick_answer, apply_answer, apply_area}
use Rattle.outcomes.specs.Stepping.{single-refused, single-kept, single-taken, single-written}
use Rattle.outcomes.proofs.Calls.{pick-refused, pick-taken}
use Rattle.outcomes.specs.CallNumbers.{PickNarrow, ApplyNarrow}
use Rattle.outcomes.proofs.Figures.{refusal-low, image-short}
use Rattle.outcomes.proofs.Images.{images}
use Rattle.outcomes.proofs.Why.{why-small, pick_good, pick-why, pick-no-why}
use Rattle.outcomes.proofs.Listed.{listed-up-to, pick-code-between, apply-code-between, pick-listed, apply-listed}

-- The pick.

-- a clause number stands with code 25 alone
clause-with_25 : (c : ℕ) (s : Step) → ((picked c s).code ≡ 25 → ⊥) → (picked c s).clause ≡ 0
clause-with_25 c solved n = refl
clause-with_25 c stuck n = refl
clause-with_25 c (to k h) n = absurd (n refl)

module _ (book query : List ℕ) where
  abbrev pick_answered : Picked
  pick_answered = pick_answer book query

  pub pick-steps : pick_answered.steps ≡ 0
  pick-steps = elim (ℕ_discrete (refusal book query 16387).code 0) [
    | yes z ↦ ap (λ (a : Picked). a.steps) (pick-taken book query z)
    | no n ↦ ap (λ (a : Picked). a.steps) (pick-refused book query n)
  ]

  pub pick-clause : (pick_answered.code ≡ 25 → ⊥) → pick_answered.clause ≡ 0
  pick-clause = elim (ℕ_discrete (refusal book query 16387).code 0) [
    | yes z ↦ rw (pick-taken book query z) (clause-with_25 (stuck_code (book_of book) (goal_of query)) (next (book_of book) (goal_of query)))
    | no n ↦ rw (pick-refused book query n) (λ x. refl)
  ]

  pub pick-place : 20 ≤ pick_answered.code → pick_answered.place ≡ 0
  pick-place = elim (ℕ_discrete (refusal book query 16387).code 0) [
    | yes z ↦ rw (pick-taken book query z) (λ h. refl)
    | no n ↦ rw (pick-refused book query n) (λ h. absurd (omega (arith, h, (refusal-low book query 16387).code)))
  ]

  pub pick-code : pick_answered.code ≤ 26
  pick-code = listed-up-to 26 (omega arith) (λ c o. (pick-code-between o).1) (pick-listed book query)

  place-narrow : pick_answered.place < 2 ^ 24
  place-narrow = elim (ℕ_discrete (refusal book query 16387).code 0) [
    | yes z ↦ rw (pick-taken book query z) (omega arith)
    | no n ↦ rw (pick-refused book query n) (omega (arith, (refusal-low book query 16387).place))
  ]

  -- there is room for the place and for both figures
  pub pick-narrow : Bytes book → Bytes query → PickNarrow pick_answered
  pick-narrow book-bytes query-bytes = record { place = place-narrow; furthest = small.0; argument = small.1 }
    where
      small : (pick_answered.furthest < 2 ^ 16) × (pick_answered.argument < 2 ^ 16)
      small = elim (ℕ_discrete pick_answered.code 22) [
        | yes c ↦
            let good = images book query book-bytes query-bytes 16387 (pick_good book query c) in
            let s = why-small (goal_premises (goal_of query) good.good_goal).0 (pick-why book query book-bytes query-bytes c) in
            (omega (arith, s.0, good.good_book.few), omega (arith, s.1, good.good_goal.fitting.size))
        | no n ↦ let z = pick-no-why book query n in (omega (arith, z.0), omega (arith, z.1))
      ]

-- The apply call.

-- it is taken by the clause number k, to a goal that has room, or it is not taken
data TakenOrNot (k : ℕ) : Single → Type 0 where
  not : (c : ℕ) → (c ≡ 25 → ⊥) → TakenOrNot k (not_taken c)
  by : (h : Goal) → fits h ≡ true → TakenOrNot k (taken k h)

alone-taken : (k : ℕ) (s : Step) → TakenOrNot k (applied k s)
alone-taken k solved = not 20 (λ e. omega arith)
alone-taken k stuck = not 33 (λ e. omega arith)
alone-taken k (to j h) = cases (fits h) (λ e. rw e (by h e)) (λ e. rw e (not 24 (λ e. omega arith)))

taken_or_not : (P : Book) (g : Goal) (k : ℕ) → TakenOrNot k (apply_by P g k)
taken_or_not P [] k = not 20 (λ e. omega arith)
taken_or_not P (f ∷ g) k = elim (dec_lt k (length P)) [
  | yes l ↦ rw (lt-ltb k (length P) l) (alone-taken k (next (clause_at P k ∷ []) (f ∷ g)))
  | no n ↦ rw (le-ltb k (length P) (omega arith)) (not 32 (λ e. omega arith))
]

-- what is answered and left with a code
record ApplyFigures (k : ℕ) (before : List ℕ) (a : Stepped) (after : List ℕ) : Type 0 where
  narrow : ApplyNarrow a
  span : a.span ≡ 0
  place : 20 ≤ a.code → a.place ≡ 0
  with_25 : a.code ≡ 25 → (a.steps ≡ 1) × (a.clause ≡ k)
  else : (a.code ≡ 25 → ⊥) → (a.steps ≡ 0) × (a.bytes ≡ 0) × (a.clause ≡ 0) × (after ≡ before)

single-figures : (k : ℕ) (area : List ℕ) {s : Single} → TakenOrNot k s → ApplyFigures k area (stepped no_figures s) (leaves s.written area)
single-figures k area (not c n) =
    record { narrow = record { place = omega arith; bytes = omega arith }; span = refl; place = λ l. refl; with_25 = λ e. absurd (n e); else = λ x. (refl, refl, refl, refl) }
single-figures k area (by h e) =
    record { narrow = record { place = omega arith; bytes = omega (arith, image-short h e) }; span = refl; place = λ l. refl; with_25 = λ x. (refl, refl); else = λ n. absurd (n refl) }

module _ (book query : List ℕ) (k : ℕ) (area : List ℕ) where
  abbrev apply_answered : Stepped
  apply_answered = apply_answer book query k area

  abbrev it : Single
  it = apply_by (book_of book) (goal_of query) k

  apply-figures : ApplyFigures k area apply_answered (apply_area book query k area)
  apply-figures = elim (ℕ_discrete (refusal book query (length area)).code 0) [
    | yes z ↦ rw (single-taken book query area z (stepped no_figures it), single-written book query area z it) (single-figures k area (taken_or_not (book_of book) (goal_of query) k))
    | no n ↦
        let low = refusal-low book query (length area) in
        rw (single-refused book query area n (stepped no_figures it), single-kept book query area n it)
        (record {
          narrow = record { place = omega (arith, low.place); bytes = omega arith };
          span = refl;
          place = λ h. absurd (omega (arith, h, low.code));
          with_25 = λ e. absurd (omega (arith, e, low.code));
          else = λ x. (refl, refl, refl, refl);
        })
  ]

  pub apply-narrow : ApplyNarrow apply_answered
  apply-narrow = apply-figures.narrow

  pub apply_code : apply_answered.code ≤ 33
  apply_code = listed-up-to 33 (omega arith) (λ c o. (apply-code-between o).1) (apply-listed book query k area)

  pub apply-span : apply_answered.span ≡ 0
  apply-span = apply-figures.span

  pub apply-place : 20 ≤ apply_answered.code → apply_answered.place ≡ 0
  apply-place = apply-figures.place

  -- "answers 25 with steps 1 and its clause number"
  pub apply-taken : apply_answered.code ≡ 25 → (apply_answered.steps ≡ 1) × (apply_answered.clause ≡ k)
  apply-taken = apply-figures.with_25

  -- "or is refused and writes nothing"
  pub apply-refuses : (apply_answered.code ≡ 25 → ⊥) → (apply_answered.steps ≡ 0) × (apply_answered.bytes ≡ 0) × (apply_answered.clause ≡ 0) × (apply_area book query k area ≡ area)
  apply-refuses = apply-figures.else
