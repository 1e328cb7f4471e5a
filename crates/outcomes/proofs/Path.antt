-- A step can be fed its own output: the image that a step or a run leaves is a good query, t steps lead to the goal of the path at t, and a run leaves what as many single
-- steps write. Of any bytes that the checks find good.
use Rattle.std.specs.Prelude.{ℕ, ◌≤◌, ◌≡◌, refl, List, length, take, drop}
use Rattle.std.proofs.Common.{arith, sym as inv, ap, ap₂, ◌∙◌, subst}
use Rattle.std.proofs.Math.Path.{transport}
use Rattle.std.proofs.Math.Option.{some, some-injective}
use Rattle.std.proofs.Math.Seq.{take-append_seam}
use Rattle.loops.specs.Path.{path-zero}
use Rattle.search.specs.Next.{Book, Goal, Next}
use Rattle.search.specs.Step.{next_goal}
use Rattle.search.specs.Run.{goal_at, Roomy}
use Rattle.search.proofs.PathLaws.{path-next}
use Rattle.search.specs.Single.{Single, not_taken, Steps, solved_20, stuck_22, full_24, unknown_26}
use Rattle.search.proofs.SingleLaws.{step_iff}
use Rattle.search.proofs.TestLaws.{big_iff}
use Rattle.search.specs.Furthest.{Figures}
use Rattle.search.specs.Resolution.{Derived}
use Rattle.search.proofs.ResolutionLaws.{derived_iff}
use Rattle.format.specs.declared.Check.{Check}
use Rattle.format.specs.Reading.{book_verdict, query_verdict}
use Rattle.format.specs.Arities.{Suits}
use Rattle.format.specs.Format.{GoodBook, GoodGoal, encode_book, encode_goal, Bytes}
use Rattle.format.specs.Decode.{book_of, goal_of}
use Rattle.format.proofs.Decoding.{book_of-good, goal_of-good, goal_of-suits, goal_of-image}
use Rattle.format.proofs.Meaning.{query-written}
use Rattle.format.proofs.Premises.{book-clauses, goal_premises}
use Rattle.areas.proofs.GoodGoals.{book-atomic, goal-atomics}
use Rattle.outcomes.specs.declared.Stepped.{Stepped}
use Rattle.outcomes.specs.Outcome.{room, stepped, step_said, leaves, step_answer, step_area, run_answer, run_area}
use Rattle.outcomes.proofs.Images.{step-of-good}
use Rattle.outcomes.proofs.StepSays.{StepSays, solved, stuck, unknown, full, went, step-taken, step-says}
use Rattle.outcomes.proofs.RunSays as RunSays
use Rattle.outcomes.proofs.RunSays.{Means, run-means, run-figures}
use Rattle.outcomes.proofs.StepsTo.{StepsTo, none_yet, one_more, reached, gets_there, run_gets_there}

-- with code 25 the next goal's image stands at the front
went-by : {P : Book} {q : Goal} {area after : List ℕ} {r : Stepped} → StepSays P q area r after → r.code ≡ 25 → (h : Goal) × Next P q r.clause h × (take r.bytes after ≡ encode_goal h)
went-by (solved e) c = absurd (omega arith)
went-by (stuck f g e n k w x) c = absurd (omega arith)
went-by (unknown f g e n k) c = absurd (omega arith)
went-by (full k h n b) c = absurd (omega arith)
went-by {area = area} (went k h n l m) c = (h, n, take-append_seam (encode_goal h) (drop (length (encode_goal h)) area))

-- with code 23 the budget is used up
spent_all : {P : Book} {budget steps : ℕ} {g a : Goal} {c n : ℕ} {w : Figures} → Means P budget steps g a c n w → c ≡ 23 → steps ≡ budget
spent_all (RunSays.solved e) k = absurd (omega arith)
spent_all (RunSays.loop f g e y) k = absurd (omega arith)
spent_all (RunSays.stuck f g e n i w x) k = absurd (omega arith)
spent_all (RunSays.unknown f g e n i) k = absurd (omega arith)
spent_all (RunSays.spent j h n e) k = e
spent_all (RunSays.full j h n l b) k = absurd (omega arith)
spent_all (RunSays.long j h b n l f t) k = absurd (omega arith)

-- with codes 20, 22, 24 and 26 no step can be taken
no_step : {P : Book} {budget steps : ℕ} {g a : Goal} {c n : ℕ} {w : Figures} → Means P budget steps g a c n w → (c ≡ 21 → ⊥) → (c ≡ 23 → ⊥) → (c ≡ 27 → ⊥) → Steps 0 P g (not_taken c)
no_step (RunSays.solved e) l s b = solved_20 e
no_step (RunSays.loop f g e y) l s b = absurd (l refl)
no_step (RunSays.stuck f g e n k w x) l s b = stuck_22 f g e n k
no_step (RunSays.unknown f g e n k) l s b = unknown_26 f g e n k
no_step (RunSays.spent k h n e) l s b = absurd (s refl)
no_step (RunSays.full k h n e b) l s t = full_24 k h (record { later = k; number = omega arith; next = n }) ((big_iff h).1 b)
no_step (RunSays.long k h b n e f m) l s t = absurd (t refl)

-- bytes that are a good query by a book, and the goal that they are the image of
pub record GoodQuery (book image : List ℕ) (g : Goal) : Type 0 where
  pub good : GoodGoal g
  pub suits : Suits (book_of book) g
  pub is : encode_goal g ≡ image
  pub reads : goal_of image ≡ g
  pub checked : (query_verdict book image).code ≡ 0

good_query : (book image : List ℕ) (g : Goal) → GoodBook (book_of book) → encode_book (book_of book) ≡ book → GoodGoal g → Suits (book_of book) g → encode_goal g ≡ image → GoodQuery book image g
good_query book image g good_book book_is good suits is = record {
  good = good;
  suits = suits;
  is = is;
  reads = ap goal_of (inv is) ∙ goal_of-image g good;
  checked = ap₂ (λ b i. (query_verdict b i).code) (inv book_is) (inv is) ∙ ap (λ (c : Check). c.code) (query-written (book_of book) good_book g good suits);
}

module _ (book query : List ℕ) (book-bytes : Bytes book) (query-bytes : Bytes query) (book_good : (book_verdict book).code ≡ 0) (query_good : (query_verdict book query).code ≡ 0) where
  abbrev P : Book
  P = book_of book

  abbrev q : Goal
  q = goal_of query

  good_P : GoodBook P × (encode_book P ≡ book)
  good_P = book_of-good book book-bytes book_good

  good-q : GoodGoal q × (encode_goal q ≡ query)
  good-q = goal_of-good book query query-bytes query_good

  suits-q : Suits P q
  suits-q = goal_of-suits book query book-bytes query-bytes query_good

  as_images : (t : ℕ) (image : List ℕ) → StepsTo (encode_book P) (encode_goal q) t image ≡ StepsTo book query t image
  as_images t image = ap₂ (λ b g. StepsTo b g t image) good_P.1 good-q.1

  -- t steps lead to the image of the path's goal at t, a good query
  pub steps-path : (t : ℕ) (image : List ℕ) → StepsTo book query t image → (g : Goal) × (goal_at P q t ≡ some g) × GoodQuery book image g
  steps-path t image s = let r = reached P good_P.0 q good-q.0 suits-q (transport (inv (as_images t image)) s) in (r.goal, r.at, good_query book image r.goal good_P.0 good_P.1 r.good r.fits r.is)

  -- and to no other bytes, whatever areas are lent
  pub steps-one : (t : ℕ) (image image' : List ℕ) → StepsTo book query t image → StepsTo book query t image' → image ≡ image'
  steps-one t image image' s s' =
      let r = steps-path t image s in
      let r' = steps-path t image' s' in
      inv r.2.is ∙ ap encode_goal (some-injective r.0 r'.0 (inv r.1 ∙ r'.1)) ∙ r'.2.is

  module _ (area : List ℕ) where
    -- what a step with code 25 writes is the image of the next goal, by the clause that it names, and a good query: the next step's
    pub step-again : (step_answer book query area).code ≡ 25 → let r = step_answer book query area in
        (h : Goal) × Next P q r.clause h × GoodQuery book (take r.bytes (step_area book query area)) h
    step-again c =
        let w = went-by ((step-says book query area book-bytes query-bytes (step-taken book query area (omega (arith, c))) (step_answer book query area) (step_area book query area)).0 (refl, refl)) c in
        let r = steps-path 1 (take (step_answer book query area).bytes (step_area book query area)) (one_more none_yet area c) in
        let there = (path-next P (book-clauses P good_P.0) q (goal_premises q good-q.0).0 0 q w.0 (path-zero (next_goal P) q)).1 ((step_answer book query area).clause, w.1) in
        (w.0, w.1, subst (GoodQuery book (take (step_answer book query area).bytes (step_area book query area))) (some-injective r.0 w.0 (inv r.1 ∙ there)) r.2)

    -- that goal is the one that document 000's resolution gives
    pub step_derives : (step_answer book query area).code ≡ 25 → let r = step_answer book query area in
        (h : Goal) × Derived P q r.clause h × GoodQuery book (take r.bytes (step_area book query area)) h
    step_derives c =
        let s = step-again c in
        (s.0, (derived_iff P (book-atomic P good_P.0) q (goal-atomics q good-q.0) (step_answer book query area).clause s.0).1 s.1, s.2)

    module _ (long : 16387 ≤ length area) where
      -- so many steps can be taken as there is room for
      pub path-steps : (t : ℕ) (g : Goal) → goal_at P q t ≡ some g → Roomy P q t → StepsTo book query t (encode_goal g)
      path-steps t g e room = transport (as_images t (encode_goal g)) (gets_there P good_P.0 q good-q.0 suits-q area long t g e room)

  -- The run, which carries an answer beside the goal.
  module _ (area space : List ℕ) (long : 16387 ≤ room area space) where
    -- a run leaves what as many single steps write, with whatever code it closes
    pub run-is-steps : (budget : ℕ) → let r = run_answer book query budget area space in StepsTo book query r.steps (take r.bytes (run_area book query budget area space))
    run-is-steps budget =
        subst (λ b. StepsTo b query (run_answer b query budget area space).steps (take (run_answer b query budget area space).bytes (run_area b query budget area space))) good_P.1
        (subst (λ g. StepsTo (encode_book P) g (run_answer (encode_book P) g budget area space).steps (take (run_answer (encode_book P) g budget area space).bytes (run_area (encode_book P) g budget area space))) good-q.1
        (run_gets_there P good_P.0 q good-q.0 suits-q area space long budget))

    -- so its image is a good query too, of the path's goal there
    pub run-leaves : (budget : ℕ) → let r = run_answer book query budget area space in (g : Goal) × (goal_at P q r.steps ≡ some g) × GoodQuery book (take r.bytes (run_area book query budget area space)) g
    run-leaves budget = let r = run_answer book query budget area space in steps-path r.steps (take r.bytes (run_area book query budget area space)) (run-is-steps budget)

    -- where it closes with 23, these are as many as the budget
    pub run_spends : (budget : ℕ) → let r = run_answer book query budget area space in r.code ≡ 23 → StepsTo book query budget (take r.bytes (run_area book query budget area space))
    run_spends budget c = subst (λ t. StepsTo book query t (take (run_answer book query budget area space).bytes (run_area book query budget area space)))
        (spent_all (run-means book query budget area space book-bytes query-bytes (omega (arith, c))).means c) (run-is-steps budget)

    -- where it closes with 20, 22, 24 or 26, a single step from what it leaves says the same, and writes nothing
    pub run_ends : (budget : ℕ) → let r = run_answer book query budget area space in 20 ≤ r.code → (r.code ≡ 21 → ⊥) → (r.code ≡ 23 → ⊥) → (r.code ≡ 27 → ⊥) → (lent : List ℕ) → 16387 ≤ length lent
        → let image = take r.bytes (run_area book query budget area space) in
        (step_answer book image lent ≡ record { code = r.code; place = 0; steps = 0; span = 0; bytes = 0; clause = 0; furthest = r.furthest; argument = r.argument }) × (step_area book image lent ≡ lent)
    run_ends budget high other spent fits lent enough =
        let says = run-means book query budget area space book-bytes query-bytes high in
        let left = run-leaves budget in
        let g = left.0 in
        let same : says.goal ≡ g = some-injective says.goal g (inv says.reached ∙ left.1) in
        let stays = (step_iff 0 P (book-clauses P good_P.0) g (goal_premises g left.2.good).0 (not_taken (run_answer book query budget area space).code)).1
        (subst (λ h. Steps 0 P h (not_taken (run_answer book query budget area space).code)) same (no_step says.means other spent fits)) in
        let o = step-of-good P good_P.0 g left.2.good left.2.suits lent enough in (
          ap₂ (λ b i. step_answer b i lent) (inv good_P.1) (inv left.2.is) ∙ o.0 ∙ ap (step_said P g) stays ∙ ap (λ w. stepped w (not_taken (run_answer book query budget area space).code)) (run-figures book query budget area space book-bytes query-bytes high g left.1),
          ap₂ (λ b i. step_area b i lent) (inv good_P.1) (inv left.2.is) ∙ o.1 ∙ ap (λ (s : Single). leaves s.written lent) stays,
        )
