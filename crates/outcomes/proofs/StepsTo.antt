-- Single steps one after another, each fed with what the one before it wrote: on images of good books and goals they follow the path. The theorems over any bytes are in
-- Path.
use Rattle.std.specs.Prelude.{ℕ, zero, suc, ◌+◌, ◌≤◌, ◌≡◌, refl, Bool, true, false, List, length, take, drop}
use Rattle.std.proofs.Common.{arith, sym as inv, ap, ap₂, ◌∙◌, subst}
use Rattle.std.proofs.Math.Option.{some, some-injective}
use Rattle.std.proofs.Math.Seq.{take-append_seam}
use Rattle.loops.specs.Path.{path-zero, path-on, path-back}
use Rattle.search.specs.Next.{Book, Goal}
use Rattle.search.specs.Step.{Step, solved, stuck, to, next, next_goal, goal_in, counted}
use Rattle.search.specs.Room.{fits}
use Rattle.search.specs.Known.{stuck_code, stuck-not_25}
use Rattle.search.specs.Single.{if_fits, single, step}
use Rattle.search.specs.Run.{goal_at, Roomy}
use Rattle.search.specs.Answer.{answered}
use Rattle.search.proofs.AnswerLaws.{answered-runs}
use Rattle.search.proofs.AnswerRuns.{answers-goal}
use Rattle.format.specs.Format.{GoodBook, GoodGoal, encode_book, encode_goal}
use Rattle.format.specs.Arities.{Suits}
use Rattle.areas.proofs.GoodGoals.{path-good}
use Rattle.areas.proofs.SuitedGoals.{path-suits}
use Rattle.outcomes.specs.declared.Answer.{Answer}
use Rattle.outcomes.specs.declared.Stepped.{Stepped}
use Rattle.outcomes.specs.Outcome.{over, room, step_said, bytes_of, leaves, step_answer, step_area, run_answer, run_area}
use Rattle.outcomes.specs.Refusals.{not-refused}
use Rattle.outcomes.proofs.Images.{step-of-good, run-of-good}
use Rattle.outcomes.proofs.StepSays.{step-taken}

-- t steps by a book lead from a query to an image: each answers 25, whatever area it is lent, and the next one's query is what it wrote at the front of that area
pub data StepsTo (book query : List ℕ) : ℕ → List ℕ → Type 0 where
  none_yet : StepsTo book query 0 query
  one_more : {t : ℕ} {image : List ℕ} → StepsTo book query t image → (area : List ℕ) → (step_answer book image area).code ≡ 25
      → StepsTo book query (suc t) (take (step_answer book image area).bytes (step_area book image area))

-- what stands at the front
front : (g : Goal) (area : List ℕ) → take (length (encode_goal g)) (over (encode_goal g) area) ≡ encode_goal g
front g area = take-append_seam (encode_goal g) (drop (length (encode_goal g)) area)

-- A single step with code 25, and the next goal.
record Went (P : Book) (g : Goal) : Type 0 where
  next_one : Goal
  follows : next_goal P g ≡ some next_one
  room : fits next_one ≡ true
  written : (step P g).written ≡ some next_one

went-fit : (P : Book) (g h : Goal) (k : ℕ) → next P g ≡ to k h → (b : Bool) → fits h ≡ b → (if_fits b (0 + k) h).code ≡ 25 → Went P g
went-fit P g h k e true f c = record { next_one = h; follows = ap goal_in e; room = f; written = ap (λ s. (single (stuck_code P g) (counted 0 s)).written) e ∙ ap (λ b. (if_fits b (0 + k) h).written) f }
went-fit P g h k e false f c = absurd (omega arith)

went : (P : Book) (g : Goal) → (step P g).code ≡ 25 → Went P g
went P g c = go (next P g) refl
  where
    go : (s : Step) → next P g ≡ s → Went P g
    go solved e = absurd (omega (arith, c, ap (λ s. (single (stuck_code P g) (counted 0 s)).code) e))
    go stuck e = absurd (stuck-not_25 P g (inv (ap (λ s. (single (stuck_code P g) (counted 0 s)).code) e) ∙ c))
    go (to k h) e = went-fit P g h k e (fits h) refl (inv (ap (λ s. (single (stuck_code P g) (counted 0 s)).code) e) ∙ c)

-- The step from a good goal, by a good book, fed with images.
module _ (P : Book) (good_book : GoodBook P) (g : Goal) (good_goal : GoodGoal g) (suits : Suits P g) (area : List ℕ) (c : (step_answer (encode_book P) (encode_goal g) area).code ≡ 25) where
  says : (step_answer (encode_book P) (encode_goal g) area ≡ step_said P g (step P g)) × (step_area (encode_book P) (encode_goal g) area ≡ leaves (step P g).written area)
  says = step-of-good P good_book g good_goal suits area (not-refused (encode_book P) (encode_goal g) (length area) (step-taken (encode_book P) (encode_goal g) area (omega (arith, c)))).enough

  by : Went P g
  by = went P g (inv (ap (λ (r : Stepped). r.code) says.0) ∙ c)

  next-image : take (step_answer (encode_book P) (encode_goal g) area).bytes (step_area (encode_book P) (encode_goal g) area) ≡ encode_goal by.next_one
  next-image = ap₂ take (ap (λ (r : Stepped). r.bytes) says.0 ∙ ap bytes_of by.written) (says.1 ∙ ap (λ o. leaves o area) by.written) ∙ front by.next_one area

-- The steps from a query, in images.
module _ (P : Book) (good_book : GoodBook P) (q : Goal) (good_query : GoodGoal q) (suits : Suits P q) where
  -- the image is that of the path's goal at t, a good goal that suits the book
  pub record Reached (t : ℕ) (image : List ℕ) : Type 0 where
    pub goal : Goal
    pub at : goal_at P q t ≡ some goal
    pub good : GoodGoal goal
    pub fits : Suits P goal
    pub is : encode_goal goal ≡ image

  reached-more : {t : ℕ} {image : List ℕ} → Reached t image → (area : List ℕ) → (step_answer (encode_book P) image area).code ≡ 25
      → Reached (suc t) (take (step_answer (encode_book P) image area).bytes (step_area (encode_book P) image area))
  reached-more {t} r area c =
      let c' = ap (λ i. (step_answer (encode_book P) i area).code) r.is ∙ c in
      let w = by P good_book r.goal r.good r.fits area c' in
      let there = path-on (next_goal P) t q r.goal r.at ∙ w.follows in
      record {
        goal = w.next_one;
        at = there;
        good = path-good P good_book q good_query (suc t) w.next_one there w.room;
        fits = path-suits P good_book q good_query suits (suc t) w.next_one there;
        is = inv (next-image P good_book r.goal r.good r.fits area c') ∙ ap (λ i. take (step_answer (encode_book P) i area).bytes (step_area (encode_book P) i area)) r.is;
      }

  pub reached : {t : ℕ} {image : List ℕ} → StepsTo (encode_book P) (encode_goal q) t image → Reached t image
  reached none_yet = record { goal = q; at = path-zero (next_goal P) q; good = good_query; fits = suits; is = refl }
  reached (one_more s area c) = reached-more (reached s) area c

  -- and the steps get there, where every goal on the way has room
  module _ (area : List ℕ) (long : 16387 ≤ length area) where
    step-there : (g h : Goal) → GoodGoal g → Suits P g → next_goal P g ≡ some h → fits h ≡ true → (step_answer (encode_book P) (encode_goal g) area).code ≡ 25
    step-there g h good s e f = ap (λ (r : Stepped). r.code) (step-of-good P good_book g good s area long).0 ∙ go (next P g) e
      where
        go : (s : Step) → goal_in s ≡ some h → (single (stuck_code P g) (counted 0 s)).code ≡ 25
        go solved e = cc
        go stuck e = cc
        go (to k i) e = ap (λ b. (if_fits b (0 + k) i).code) (ap fits (some-injective i h e) ∙ f)

    next-there : {t : ℕ} (b g : Goal) → GoodGoal b → Suits P b → next_goal P b ≡ some g → fits g ≡ true → StepsTo (encode_book P) (encode_goal q) t (encode_goal b) → StepsTo (encode_book P) (encode_goal q) (suc t) (encode_goal g)
    next-there {t} b g good s e f steps =
        let c = step-there b g good s e f in
        let is : (by P good_book b good s area c).next_one ≡ g = some-injective _ g (inv (by P good_book b good s area c).follows ∙ e) in
        subst (λ h. StepsTo (encode_book P) (encode_goal q) (suc t) (encode_goal h)) is (subst (StepsTo (encode_book P) (encode_goal q) (suc t)) (next-image P good_book b good s area c) (one_more steps area c))

    pub gets_there : (t : ℕ) (g : Goal) → goal_at P q t ≡ some g → Roomy P q t → StepsTo (encode_book P) (encode_goal q) t (encode_goal g)
    gets_there zero g e room = subst (λ g. StepsTo (encode_book P) (encode_goal q) 0 (encode_goal g)) (some-injective q g (inv (path-zero (next_goal P) q) ∙ e)) none_yet
    gets_there (suc t) g e room =
        let b = path-back (next_goal P) t q g e in
        let steps = gets_there t b.0 b.1 (λ j h l m. room j h l (omega arith)) in
        let r = reached steps in
        next-there b.0 g (subst GoodGoal (some-injective r.goal b.0 (inv r.at ∙ b.1)) r.good) (path-suits P good_book q good_query suits t b.0 b.1) b.2 (room (suc t) g (omega arith) (omega arith) e) steps

  -- as a run does, with whatever code it closes
  pub run_gets_there : (area space : List ℕ) → 16387 ≤ room area space → (budget : ℕ) → let r = run_answer (encode_book P) (encode_goal q) budget area space in
      StepsTo (encode_book P) (encode_goal q) r.steps (take r.bytes (run_area (encode_book P) (encode_goal q) budget area space))
  run_gets_there area space long budget =
      let c = answered P budget q in
      let x = answered-runs P budget q in
      let o = run-of-good P good_book q good_query suits area space long budget in
      subst (λ (r : Answer). StepsTo (encode_book P) (encode_goal q) r.steps (take r.bytes (run_area (encode_book P) (encode_goal q) budget area space))) (inv o.answer)
      (subst (StepsTo (encode_book P) (encode_goal q) c.steps) (inv (ap (take (length (encode_goal c.goal))) o.area ∙ front c.goal area)) (gets_there area (omega (arith, long)) c.steps c.goal (answers-goal P budget q c x) x.roomy))
