-- Demand 3 of a run with its answer (document 02, C-11): "demand 3 also supposes that the answer fits at every step up to its bound"; and what the codes say. The query is numbered, as a
-- checked query is.
use Rattle.std.specs.Prelude.{ℕ, suc, ◌+◌, ◌-◌, ◌*◌, ◌≤◌, max, ◌≡◌}
use Rattle.std.proofs.Common.{arith, sym as inv, ap, ◌∙◌, subst}
use Rattle.std.proofs.Math.Option.{some}
use Rattle.terms.specs.Node.{same_number}
use Rattle.terms.specs.Row.{Formulas}
use Rattle.terms.specs.Number.{Numbered}
use Rattle.loops.specs.Path.{path-on}
use Rattle.search.specs.Next.{Book, Goal, Clauses}
use Rattle.search.specs.Step.{next_goal}
use Rattle.search.specs.Run.{goal_at, Roomy}
use Rattle.search.proofs.PathLaws.{path-next}
use Rattle.search.specs.Cycle.{Cyclic}
use Rattle.search.specs.Codes.{Looping}
use Rattle.search.proofs.Theorem.{loop-means, loop-in_time, code-says}
use Rattle.search.specs.Answer.{small, next_answer, answer_at, Answered, closed, answered, Slim, Answers}
use Rattle.search.proofs.AnswerLaws.{large_iff, answer-next}
use Rattle.search.proofs.AnswerRuns.{answers-goal, answered_runs_as, full-run, no_27}
use Rattle.search.specs.AnswerTold.{NextWith, SaysWith, says_20_to_26, full_27}
use Rattle.search.proofs.AnswerToldLaws.{fits-small, next_both}

module _ (P : Book) (budget : ℕ) (q : Goal) (numbered : Numbered q) where
  -- the first half, and C-23: what code 21 means is what it means of the run of document 01
  pub loop-means-answered : (r : Answered) (x : Answers P budget q r) → r.code ≡ 21 → Looping P q (closed r) x.state
  loop-means-answered r x e = loop-means P budget q numbered (closed r) (answered_runs_as P budget q r x (λ z. omega arith)) e

  -- the second half: where the budget allows so many steps, and every goal and every answer up to there has room
  pub loop-in_time_answered : (s r : ℕ) (g : Goal) → goal_at P q s ≡ some g → Cyclic P g r
      → let bound : ℕ = 2 * max s (2 * r - 1) + 2 * r - 2 in
      bound ≤ budget → Roomy P q bound → Slim P q bound → ((answered P budget q).code ≡ 21) × ((answered P budget q).steps ≤ bound)
  loop-in_time_answered s r g e y allowed room slim =
      let (code, soon) = loop-in_time P budget q numbered s r g e y allowed room in
      let same = (no_27 P budget q (λ j a b. slim j a (omega arith))).1 in
      (ap (λ x. x.code) same ∙ code, omega (arith, ap (λ x. x.steps) same))

-- What the codes say, for a book and a query of formulas.
module _ (P : Book) (good : Clauses P) (budget : ℕ) (q : Goal) (formulas : Formulas q) (numbered : Numbered q) (r : Answered) (x : Answers P budget q r) where
  full-says : r.code ≡ 27 → SaysWith P budget q r x.state 27
  full-says e =
      let u = full-run P budget q r x e in
      let here = answers-goal P budget q r x in
      let (k, n) = (path-next P good q formulas r.steps r.goal u.next here).0 (path-on (next_goal P) r.steps q r.goal here ∙ u.there) in
      let both = next_both P good q formulas numbered r.steps r.goal k u.next here n in
      let same = answer-next P q r.steps r.goal u.next here u.there ∙ ap (next_answer P r.goal) (inv x.answer) in
      full_27 k u.next (answer_at P q (suc r.steps)) (subst (λ a. NextWith P r.goal a k u.next (answer_at P q (suc r.steps))) (inv x.answer) both) u.under
      (fits-small u.next u.room) ((large_iff (answer_at P q (suc r.steps))).0 (ap small same ∙ u.big)) u.span

  pub answered-says : SaysWith P budget q r x.state r.code
  answered-says =
      elim (same_number r.code 27) [
        | yes e ↦ subst (SaysWith P budget q r x.state) (inv e) (full-says e)
        | no n ↦ says_20_to_26 (code-says P good budget q formulas numbered (closed r) (answered_runs_as P budget q r x n))
      ]
