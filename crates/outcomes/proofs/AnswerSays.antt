-- What the answer of a run means, over bytes (document 02, C-11): what stands at the front of the answer area is the image of the query under the run's composed unifiers, and with
-- code 20 every instance of it follows from the book.
use Rattle.std.specs.Prelude.{ℕ, ◌≤◌, ◌≡◌, List, map, length, take, drop}
use Rattle.std.proofs.Common.{sym as inv, ap, ap₂, ◌∙◌, subst}
use Rattle.std.proofs.Math.Seq.{take-append_seam}
use Rattle.terms.specs.Row.{Every}
use Rattle.terms.specs.Subst.{Subst, apply}
use Rattle.terms.specs.Substitution.{Substitution}
use Rattle.terms.specs.Renaming.{Renaming}
use Rattle.search.specs.Next.{Book, Goal}
use Rattle.search.specs.Resolution.{AtomicClauses, Atomics}
use Rattle.search.specs.Answer.{Answered, Answers}
use Rattle.search.proofs.AnswerLaws.{answered-runs}
use Rattle.search.proofs.AnswerRuns.{answers-goal}
use Rattle.search.specs.Derivation.{Derivation, Follows}
use Rattle.search.proofs.FollowsLaws.{derivation-answer, answer_instance, solved-follows}
use Rattle.format.specs.Format.{encode_goal, Bytes}
use Rattle.format.specs.Decode.{book_of, goal_of}
use Rattle.areas.proofs.GoodGoals.{book-atomic, goal-atomics}
use Rattle.outcomes.specs.declared.Answer.{Answer}
use Rattle.outcomes.specs.Outcome.{closing, run_answer, run_answer_area}
use Rattle.outcomes.proofs.Demands.{Taken, taken}

module _ (book query : List ℕ) (budget : ℕ) (area space : List ℕ) (book-bytes : Bytes book) (query-bytes : Bytes query) where
  abbrev P : Book
  P = book_of book

  abbrev q : Goal
  q = goal_of query

  abbrev result : Answer
  result = run_answer book query budget area space

  abbrev r : Answered
  r = closing book query budget

  -- the answer that is handed back
  pub record HandedBack : Type 0 where
    pub answer : Goal
    pub image : take result.answer (run_answer_area book query budget area space) ≡ encode_goal answer
    -- "carry the query's formulas along, with each step's unifier applied": by any derivation of so many steps, up to the names of its variables
    pub computed : {g : Goal} {θ : Subst} → Derivation P q result.steps g θ → (names : Subst) × Renaming names × (answer ≡ map (apply names) (map (apply θ) q))
    pub instance_of_query : (θ : Subst) × Substitution θ × (answer ≡ map (apply θ) q)
    pub follows : result.code ≡ 20 → (τ : Subst) → Substitution τ → Every (Follows P) (map (apply τ) answer)

  pub run-answer : 20 ≤ result.code → HandedBack
  run-answer high = record {
    answer = r.answer;
    image = ap₂ take (ap (λ (a : Answer). a.answer) t.answer_is) t.answer_area_is ∙ take-append_seam (encode_goal r.answer) (drop (length (encode_goal r.answer)) space);
    computed = λ {g} {θ} d.
        let c = derivation-answer P clauses q formulas (subst (λ n. Derivation P q n g θ) steps d) in
        (c.names, c.renaming, runs.answer ∙ c.answer);
    instance_of_query = let (θ, s, e) = answer_instance P clauses q formulas r.steps r.goal (answers-goal P budget q r runs) in (θ, s, runs.answer ∙ e);
    follows = λ e. solved-follows P clauses q formulas budget r runs (inv (ap (λ (a : Answer). a.code) t.answer_is) ∙ e);
  }
    where
      t : Taken book query budget area space book-bytes query-bytes
      t = taken book query budget area space book-bytes query-bytes high

      runs : Answers P budget q r
      runs = answered-runs P budget q

      clauses : AtomicClauses P
      clauses = book-atomic P t.images.good_book

      formulas : Atomics q
      formulas = goal-atomics q t.images.good_goal

      steps : result.steps ≡ r.steps
      steps = ap (λ (a : Answer). a.steps) t.answer_is
