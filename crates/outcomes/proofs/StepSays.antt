-- What a single step says (document 01, "Codes"), of bytes and in plain figures: "A single step gives 20, 22, 24 or 25, in that order of test, with steps 1 and the clause
-- number (from 0) for code 25; otherwise steps and clause number are 0. Its span is always 0. Only code 25 writes: the next goal's image at the front of the area.
-- Codes 20, 22 and 24 of a single step write nothing and report 0 bytes." 26 stands in the place of 22 where the book has no clause for the predicate and arity (document 02, C-12).
-- With 22 the clause that got furthest and the argument at which its head fails are said, and both are 0 with every other code (C-19). The next goal is document 01's relation: any names that are apart, any most general unifier.
use Rattle.std.specs.Prelude.{ℕ, ◌≤◌, ◌≡◌, refl, ◌↔◌, List, [], ◌∷◌, ◌++◌, length, drop}
use Rattle.std.proofs.Common.{arith, sym as inv, ap, ◌∙◌, subst}
use Rattle.std.proofs.Math.Decide.{ℕ_discrete}
use Rattle.terms.specs.Node.{Expr}
use Rattle.terms.specs.Row.{Formulas}
use Rattle.search.specs.Next.{Book, Goal, Clauses, NoneMeets, Next, NextFrom}
use Rattle.search.specs.Room.{nodes, fits_iff}
use Rattle.search.specs.Known.{Known}
use Rattle.search.specs.KnownLaws.{AtomHeads}
use Rattle.search.specs.Furthest.{Figures, no_figures, Furthest, furthest, stuck_figures, figures, figures_22, figures-other}
use Rattle.search.specs.Told.{TooBig}
use Rattle.search.proofs.TestLaws.{big_iff}
use Rattle.search.specs.Single.{Single, not_taken, taken, step, Steps, solved_20, stuck_22, unknown_26, full_24, taken_25}
use Rattle.search.proofs.SingleLaws.{step_iff}
use Rattle.format.specs.Format.{encode_goal, Bytes}
use Rattle.format.specs.Decode.{book_of, goal_of}
use Rattle.format.proofs.Premises.{book-clauses, goal_premises}
use Rattle.outcomes.specs.declared.Stepped.{Stepped}
use Rattle.outcomes.specs.Outcome.{refusal, stepped, step_said, leaves, step_answer, step_area}
use Rattle.outcomes.specs.Stepping.{answer-refused, answer-taken, area-taken}
use Rattle.outcomes.proofs.Figures.{refusal-low}
use Rattle.outcomes.proofs.Images.{Images, images}
use Rattle.outcomes.proofs.Stuck.{good-heads, stuck-says, stuck-one}

-- the step from q by P into an area, with what it answers and leaves
pub data StepSays (P : Book) (q : Goal) (area : List ℕ) : Stepped → List ℕ → Type 0 where
  solved : q ≡ [] → StepSays P q area (record { code = 20; place = 0; steps = 0; span = 0; bytes = 0; clause = 0; furthest = 0; argument = 0 }) area
  stuck : (f : Expr) (g : Goal) → q ≡ f ∷ g → NoneMeets f P → Known P f → (w : Figures) → Furthest P f w
      → StepSays P q area (record { code = 22; place = 0; steps = 0; span = 0; bytes = 0; clause = 0; furthest = w.clause; argument = w.argument }) area
  unknown : (f : Expr) (g : Goal) → q ≡ f ∷ g → NoneMeets f P → ¬ Known P f → StepSays P q area (record { code = 26; place = 0; steps = 0; span = 0; bytes = 0; clause = 0; furthest = 0; argument = 0 }) area
  full : (k : ℕ) (h : Goal) → Next P q k h → TooBig h → StepSays P q area (record { code = 24; place = 0; steps = 0; span = 0; bytes = 0; clause = 0; furthest = 0; argument = 0 }) area
  went : (k : ℕ) (h : Goal) → Next P q k h → length h ≤ 512 → nodes h ≤ 4096
      → StepSays P q area (record { code = 25; place = 0; steps = 1; span = 0; bytes = length (encode_goal h); clause = k; furthest = 0; argument = 0 }) (encode_goal h ++ drop (length (encode_goal h)) area)

module _ (P : Book) (heads : AtomHeads P) (clauses : Clauses P) (q : Goal) (formulas : Formulas q) (area : List ℕ) where
  -- clauses counted from the first
  counted : {k : ℕ} {h : Goal} → NextFrom 0 P q k h → Next P q k h
  counted {h = h} n = subst (λ k. Next P q k h) (let e : n.later ≡ _ = omega (arith, n.number) in e) n.next

  from_first : {k : ℕ} {h : Goal} → Next P q k h → NextFrom 0 P q k h
  from_first {k} n = record { later = k; number = omega arith; next = n }

  -- with every code but 22 both figures are 0
  bare : (s : Single) {after : List ℕ} (code : ℕ) → ¬ (code ≡ 22) → StepSays P q area (stepped no_figures s) after → StepSays P q area (stepped (figures P code q) s) after
  bare s {after} code n x = subst (λ w. StepSays P q area (stepped w s) after) (inv (figures-other P code q n)) x

  bare-answer : (code : ℕ) (s : Single) → ¬ (code ≡ 22) → stepped no_figures s ≡ stepped (figures P code q) s
  bare-answer code s n = ap (λ w. stepped w s) (inv (figures-other P code q n))

  single-says : (s : Single) → Steps 0 P q s → StepSays P q area (step_said P q s) (leaves s.written area)
  single-says s (solved_20 e) = bare (not_taken 20) 20 (λ z. omega arith) (solved e)
  single-says s (stuck_22 f g e n k) =
      subst (λ w. StepSays P q area (stepped w (not_taken 22)) area) (inv (figures_22 P q ∙ ap (stuck_figures P) e))
      (stuck f g e n k (furthest P f) (stuck-says P heads clauses f (subst Formulas e formulas).0 k n))
  single-says s (unknown_26 f g e n k) = bare (not_taken 26) 26 (λ z. omega arith) (unknown f g e n k)
  single-says s (full_24 k h n f) = bare (not_taken 24) 24 (λ z. omega arith) (full k h (counted n) ((big_iff h).0 f))
  single-says s (taken_25 k h n f) = let room = (fits_iff h).0 f in bare (taken k h) 25 (λ z. omega arith) (went k h (counted n) room.0 room.1)

  -- what is said comes of one single step
  record ComesOf (r : Stepped) (after : List ℕ) : Type 0 where
    single : Single
    steps : Steps 0 P q single
    answer : r ≡ step_said P q single
    left : after ≡ leaves single.written area

  says-single : {r : Stepped} {after : List ℕ} → StepSays P q area r after → ComesOf r after
  says-single (solved e) = record { single = not_taken 20; steps = solved_20 e; answer = bare-answer 20 (not_taken 20) (λ z. omega arith); left = refl }
  says-single (stuck f g e n k w x) = record {
    single = not_taken 22;
    steps = stuck_22 f g e n k;
    answer = ap (λ v. stepped v (not_taken 22)) (inv (stuck-one P heads clauses f (subst Formulas e formulas).0 k w x) ∙ inv (figures_22 P q ∙ ap (stuck_figures P) e));
    left = refl;
  }
  says-single (unknown f g e n k) = record { single = not_taken 26; steps = unknown_26 f g e n k; answer = bare-answer 26 (not_taken 26) (λ z. omega arith); left = refl }
  says-single (full k h n b) = record { single = not_taken 24; steps = full_24 k h (from_first n) ((big_iff h).1 b); answer = bare-answer 24 (not_taken 24) (λ z. omega arith); left = refl }
  says-single (went k h n l m) = record { single = taken k h; steps = taken_25 k h (from_first n) ((fits_iff h).1 (l, m)); answer = bare-answer 25 (taken k h) (λ z. omega arith); left = refl }

-- "Codes 1 to 19 refuse the input": with a code from 20 up it is taken
pub step-taken : (book query area : List ℕ) → 20 ≤ (step_answer book query area).code → (refusal book query (length area)).code ≡ 0
step-taken book query area h = elim (ℕ_discrete (refusal book query (length area)).code 0) [
  | yes z ↦ z
  | no n ↦ absurd (omega (arith, h, ap (λ (a : Stepped). a.code) (answer-refused book query area n), (refusal-low book query (length area)).code))
]

module _ (book query area : List ℕ) (book-bytes : Bytes book) (query-bytes : Bytes query) where
  abbrev P : Book
  P = book_of book

  abbrev q : Goal
  q = goal_of query

  -- what is answered and left is said, and what is said is answered and left
  pub step-says : (refusal book query (length area)).code ≡ 0 → (r : Stepped) (after : List ℕ)
      → ((step_answer book query area ≡ r) × (step_area book query area ≡ after)) ↔ StepSays P q area r after
  step-says z r after = (to, from)
    where
      good : Images book query
      good = images book query book-bytes query-bytes (length area) z

      heads : AtomHeads P
      heads = good-heads P good.good_book

      clauses : Clauses P
      clauses = book-clauses P good.good_book

      formulas : Formulas q
      formulas = (goal_premises q good.good_goal).0

      by_relation : (s : Single) → (step P q ≡ s) ↔ Steps 0 P q s
      by_relation = step_iff 0 P clauses q formulas

      to : (step_answer book query area ≡ r) × (step_area book query area ≡ after) → StepSays P q area r after
      to e =
          subst (λ x. StepSays P q area x after) (inv (answer-taken book query area z) ∙ e.0)
          (subst (StepSays P q area (step_said P q (step P q))) (inv (area-taken book query area z) ∙ e.1) (single-says P heads clauses q formulas area (step P q) ((by_relation (step P q)).0 refl)))

      from : StepSays P q area r after → (step_answer book query area ≡ r) × (step_area book query area ≡ after)
      from s =
          let o = says-single P heads clauses q formulas area s in
          let same = (by_relation o.single).1 o.steps in
          (answer-taken book query area z ∙ ap (step_said P q) same ∙ inv o.answer, area-taken book query area z ∙ ap (λ (s : Single). leaves s.written area) same ∙ inv o.left)
