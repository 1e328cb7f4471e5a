-- What a run says (document 01, "Codes" and "Detection states"; document 02, C-11), of bytes and in plain figures: the goal that is left is the path's at the reported step,
-- the answer is the one carried there, and what each code says of both, with its span and with the budget. The path has no limits; the next goal is document 01's relation.
use Rattle.std.specs.Prelude.{ℕ, ◌≤◌, ◌<◌, ◌≡◌, refl, true, List, [], ◌∷◌, ◌++◌, length, drop}
use Rattle.std.proofs.Common.{arith, sym as inv, ap, ◌∙◌, subst}
use Rattle.std.proofs.Math.Option.{some, some-injective}
use Rattle.terms.specs.Node.{Expr}
use Rattle.terms.specs.Row.{Formulas}
use Rattle.terms.specs.Number.{Numbered}
use Rattle.loops.specs.Detect.{State}
use Rattle.search.specs.Next.{Book, Goal, Clauses, NoneMeets, Next}
use Rattle.search.specs.Room.{fits}
use Rattle.search.specs.Run.{goal_at, Roomy}
use Rattle.search.specs.Cycle.{CyclicFormula}
use Rattle.search.specs.Told.{TooBig}
use Rattle.search.proofs.PathLaws.{path-formulas}
use Rattle.search.specs.Known.{Known}
use Rattle.search.specs.KnownLaws.{AtomHeads}
use Rattle.search.specs.Furthest.{Figures, no_figures, Furthest, furthest, stuck_figures, figures, figures_22, figures-other}
use Rattle.search.specs.Codes.{Says, solved_20, loop_21, stuck_22, spent_23, full_24, unknown_26}
use Rattle.search.specs.Answer.{Answered, closed, Carries, Answers, Slim}
use Rattle.search.proofs.AnswerLaws.{answered-runs}
use Rattle.search.proofs.AnswerRuns.{answers-goal}
use Rattle.search.proofs.CarryLaws.{carries_iff}
use Rattle.search.specs.AnswerTold.{NextWith, TooLong, ToldWith, SaysWith, says_20_to_26, full_27}
use Rattle.search.proofs.AnswerToldLaws.{answered-told}
use Rattle.search.proofs.AnswerTheorem.{answered-says}
use Rattle.format.specs.Format.{encode_goal, Bytes}
use Rattle.format.specs.Decode.{book_of, goal_of}
use Rattle.format.proofs.Premises.{book-clauses, goal_premises}
use Rattle.outcomes.specs.declared.Answer.{Answer}
use Rattle.outcomes.specs.Outcome.{refusal, over, room, ended, closing, run_answer, run_area, run_answer_area}
use Rattle.outcomes.specs.Running.{answer-taken, area-taken, answer-area-taken}
use Rattle.outcomes.proofs.Figures.{taken-by-code}
use Rattle.outcomes.proofs.Images.{Images, images}
use Rattle.outcomes.proofs.Stuck.{good-heads, stuck-says}

-- what a code, its span and its figures say of the goal g and the answer a at the closing step: "Only code 21 has a span other than 0."; "With every code but 22 these two figures
-- are 0" (document 02, C-19)
pub data Means (P : Book) (budget steps : ℕ) (g a : Goal) : ℕ → ℕ → Figures → Type 0 where
  -- "goal empty: solved"
  solved : g ≡ [] → Means P budget steps g a 20 0 no_figures
  -- the leftmost formula alone comes back, up to renaming, after the span
  loop : {span : ℕ} (f : Expr) (rest : Goal) → g ≡ f ∷ rest → CyclicFormula P f span → Means P budget steps g a 21 span no_figures
  -- "stuck: goal not empty, no head unifies with its leftmost formula"; with 22 clauses exist for its predicate and arity, with 26 there is none (document 02, C-12)
  stuck : (f : Expr) (rest : Goal) → g ≡ f ∷ rest → NoneMeets f P → Known P f → (w : Figures) → Furthest P f w → Means P budget steps g a 22 0 w
  unknown : (f : Expr) (rest : Goal) → g ≡ f ∷ rest → NoneMeets f P → ¬ Known P f → Means P budget steps g a 26 0 no_figures
  -- "steps used up": there is a next goal, of whatever size
  spent : (k : ℕ) (h : Goal) → Next P g k h → steps ≡ budget → Means P budget steps g a 23 0 no_figures
  -- "no room: the next goal exists and has over 512 formulas or 4,096 nodes", and the budget would allow it
  full : (k : ℕ) (h : Goal) → Next P g k h → steps < budget → TooBig h → Means P budget steps g a 24 0 no_figures
  -- "27 after 24, if the next answer has over 4,096 nodes" (document 02, C-11)
  long : (k : ℕ) (h b : Goal) → NextWith P g a k h b → steps < budget → ¬ TooBig h → TooLong b → Means P budget steps g a 27 0 no_figures

-- what a run that is taken answers and leaves in its areas
pub record RunSays (P : Book) (q : Goal) (budget : ℕ) (area space : List ℕ) (r : Answer) (after filled : List ℕ) : Type 0 where
  pub goal : Goal
  pub answer : Goal
  pub reached : goal_at P q r.steps ≡ some goal
  pub carried : Carries P q r.steps goal answer
  pub allowed : r.steps ≤ budget
  pub roomy : Roomy P q r.steps
  pub slim : Slim P q r.steps
  pub means : Means P budget r.steps goal answer r.code r.span (record { clause = r.furthest; argument = r.argument })
  pub place : r.place ≡ 0
  pub bytes : r.bytes ≡ length (encode_goal goal)
  pub answer_bytes : r.answer ≡ length (encode_goal answer)
  pub left : after ≡ encode_goal goal ++ drop (length (encode_goal goal)) area
  pub answer_left : filled ≡ encode_goal answer ++ drop (length (encode_goal answer)) space

module _ (P : Book) (heads : AtomHeads P) (clauses : Clauses P) (budget : ℕ) (q : Goal) (r : Answered) (formulas : Formulas r.goal) (s : State Expr) where
  -- a span that is 0, and a code with no figures
  abbrev Here : ℕ → ℕ → Figures → Type 0
  Here = Means P budget r.steps r.goal r.answer

  bare : (code : ℕ) → ¬ (code ≡ 22) → r.span ≡ 0 → Here code 0 no_figures → Here code r.span (figures P code r.goal)
  bare code n z m = subst (λ x. Here code x (figures P code r.goal)) (inv z) (subst (Here code 0) (inv (figures-other P code r.goal n)) m)

  base-means : {c : ℕ} → Says P budget q (closed r) s c → Here c r.span (figures P c r.goal)
  base-means (solved_20 e z) = bare 20 (λ x. omega arith) z (solved e)
  base-means (loop_21 l) = subst (Here 21 r.span) (inv (figures-other P 21 r.goal (λ x. omega arith))) (loop l.formula l.rest l.leftmost l.returns)
  base-means (stuck_22 f g e n k z) =
      subst (λ x. Here 22 x (figures P 22 r.goal)) (inv z)
      (subst (Here 22 0) (inv (figures_22 P r.goal ∙ ap (stuck_figures P) e)) (stuck f g e n k (furthest P f) (stuck-says P heads clauses f (subst Formulas e formulas).0 k n)))
  base-means (unknown_26 f g e n k z) = bare 26 (λ x. omega arith) z (unknown f g e n k)
  base-means (spent_23 k h n l z) = bare 23 (λ x. omega arith) z (spent k h n l)
  base-means (full_24 k h n l b z) = bare 24 (λ x. omega arith) z (full k h n l b)

  code-means : {c : ℕ} → SaysWith P budget q r s c → Here c r.span (figures P c r.goal)
  code-means (says_20_to_26 x) = base-means x
  code-means (full_27 k h b n l f t z) = bare 27 (λ x. omega arith) z (long k h b n l f t)

module _ (book query : List ℕ) (budget : ℕ) (area space : List ℕ) (book-bytes : Bytes book) (query-bytes : Bytes query) where
  abbrev P : Book
  P = book_of book

  abbrev q : Goal
  q = goal_of query

  abbrev r : Answered
  r = closing book query budget

  module _ (high : 20 ≤ (run_answer book query budget area space).code) where
    z : (refusal book query (room area space)).code ≡ 0
    z = taken-by-code book query budget area space high

    good : Images book query
    good = images book query book-bytes query-bytes (room area space) z

    clauses : Clauses P
    clauses = book-clauses P good.good_book

    premises : Formulas q × Numbered q × (fits q ≡ true)
    premises = goal_premises q good.good_goal

    runs : Answers P budget q r
    runs = answered-runs P budget q

    here : goal_at P q r.steps ≡ some r.goal
    here = answers-goal P budget q r runs

    -- Each code from 20 up with what it says.
    pub run-means : RunSays P q budget area space (run_answer book query budget area space) (run_area book query budget area space) (run_answer_area book query budget area space)
    run-means =
        subst (λ a. RunSays P q budget area space a (run_area book query budget area space) (run_answer_area book query budget area space)) (inv (answer-taken book query budget area space z))
        (record {
          goal = r.goal;
          answer = r.answer;
          reached = here;
          carried = (carries_iff P clauses q premises.0 r.steps r.goal r.answer).1 (here, runs.answer);
          allowed = runs.allowed;
          roomy = runs.roomy;
          slim = runs.slim;
          means = code-means P (good-heads P good.good_book) clauses budget q r (path-formulas P clauses q premises.0 r.steps r.goal here) runs.state (answered-says P clauses budget q premises.0 premises.1 r runs);
          place = refl;
          bytes = refl;
          answer_bytes = refl;
          left = area-taken book query budget area space z;
          answer_left = answer-area-taken book query budget area space z;
        })

    -- the figures are those of its code and the goal at the reported step
    pub run-figures : (g : Goal) → goal_at P q (run_answer book query budget area space).steps ≡ some g
        → figures P (run_answer book query budget area space).code g ≡ record { clause = (run_answer book query budget area space).furthest; argument = (run_answer book query budget area space).argument }
    run-figures g e =
        let is = answer-taken book query budget area space z in
        let same : r.goal ≡ g = some-injective r.goal g (inv here ∙ ap (λ (a : Answer). goal_at P q a.steps) (inv is) ∙ e) in
        ap (λ (a : Answer). figures P a.code g) is ∙ ap (figures P r.code) (inv same) ∙ ap (λ (a : Answer). record { clause = a.furthest; argument = a.argument }) (inv is)

    -- Demand 2: what is answered and left is what document 01's "Detection states", with document 02's C-11, tell of the book and the goal that the bytes are images of
    pub run-is-told : (c : Answered) → ToldWith P budget q c
        → (run_answer book query budget area space ≡ ended P c) × (run_area book query budget area space ≡ over (encode_goal c.goal) area) × (run_answer_area book query budget area space ≡ over (encode_goal c.answer) space)
    run-is-told c told =
        let same = (answered-told P clauses q premises.0 premises.1 budget c).1 told in (
          answer-taken book query budget area space z ∙ ap (ended P) same,
          area-taken book query budget area space z ∙ ap (λ (c : Answered). over (encode_goal c.goal) area) same,
          answer-area-taken book query budget area space z ∙ ap (λ (c : Answered). over (encode_goal c.answer) space) same,
        )

    -- and they tell something
    pub some-told : (c : Answered) × ToldWith P budget q c
    some-told = (r, (answered-told P clauses q premises.0 premises.1 budget r).0 refl)
