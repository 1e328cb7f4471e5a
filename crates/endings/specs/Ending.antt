-- How a search that has ended is answered: `answered`, and what that leaves in the two areas (`search-leaves`).
use Rattle.std.specs.Prelude.{ℕ, ◌+◌, ◌-◌, ◌≤◌, ◌≡◌, List, ◌++◌, length, take, drop}
use Rattle.std.proofs.Common.{arith, sym as inv, ap, ap₂, ◌∙◌, subst, length-drop, length-take-le}
use Rattle.search.specs.Next.{Book, Goal}
use Rattle.search.specs.Answer as Answer
use Rattle.search.specs.Answer.{Answered, answer_at}
use Rattle.search.proofs.AnswerLaws.{answered-runs, answer-whole}
use Rattle.search.proofs.AnswerRuns.{answers-goal}
use Rattle.search.specs.Furthest.{Figures}
use Rattle.words.specs.Held.{FormulasIn}
use Rattle.format.specs.Format.{encode_goal}
use Rattle.storage.specs.Storage.{Written}
use Rattle.states.specs.declared.Ended.{Ended}
use Rattle.states.specs.States.{Ends}
use Rattle.outcomes.specs.declared.Answer.{Answer}
use Rattle.outcomes.specs.Outcome.{over}
use Rattle.outcomes.specs.Running.{Leaves}

abbrev pub answered : Ended → ℕ → ℕ → Answer
answered e bytes said = record { code = e.code; place = 0; steps = e.steps; span = e.span; bytes = bytes; answer = said; furthest = e.clause; argument = e.argument }

-- an ended search with the figures w
abbrev with_figures : Ended → ℕ → ℕ → Figures → Answer
with_figures e bytes said w = record { code = e.code; place = 0; steps = e.steps; span = e.span; bytes = bytes; answer = said; furthest = w.clause; argument = w.argument }

-- what is written is laid over
laid-over : {image before after : List ℕ} {n : ℕ} → Written image before after n → after ≡ over image before
laid-over {image} {before} w = w.holds ∙ ap (λ n. image ++ drop n before) w.count

-- the words behind the last goal hold the answer, of as many formulas as the query has
pub said-holds : {P : Book} {q : Goal} {budget : ℕ} {goal : List ℕ} {e : Ended} → (x : Ends P q budget goal e) → {n : ℕ} → n ≡ length q
    → FormulasIn 8192 (take (e.words + e.answer - e.words) (drop e.words goal)) n x.said
said-holds {P} {q} {budget} {goal} {e} x {n} z =
    let r = answered-runs P budget q in
    let last = Answer.answered P budget q in
    let is : x.said ≡ answer_at P q last.steps = inv (ap (λ (a : Answered). a.answer) x.runs) ∙ r.answer in
    let long : length x.said ≡ length q = ap length is ∙ (answer-whole P q last.steps last.goal (answers-goal P budget q last r)).1 in
    let size : e.answer ≡ e.words + e.answer - e.words = omega arith in
    subst (λ k. FormulasIn 8192 (take k (drop e.words goal)) n x.said) size (subst (λ k. FormulasIn 8192 (take e.answer (drop e.words goal)) k x.said) (long ∙ inv z) x.answer)

-- both are short
pub last-short : {P : Book} {q : Goal} {budget : ℕ} {goal : List ℕ} {e : Ended} → Ends P q budget goal e → (e.words ≤ 4096) × (e.answer ≤ 4096)
last-short {goal = goal} {e} x = (
  omega (arith, x.holds.size, length-take-le e.words goal x.within),
  omega (arith, x.answer.size, x.answer_within, length-take-le e.answer (drop e.words goal) (omega (arith, x.answer_within, length-drop e.words goal))),
)

-- the search ends as e says, and the images of its last goal and of its answer are written
pub search-leaves : {P : Book} {q : Goal} {budget : ℕ} {goal : List ℕ} {e : Ended} → (x : Ends P q budget goal e) → {before after space filled : List ℕ} {n m : ℕ}
    → Written (encode_goal x.last) before after n → Written (encode_goal x.said) space filled m → Leaves P (Answer.answered P budget q) before space (answered e n m) after filled
search-leaves {P} {e = e} x w v =
    rw x.runs
    (record {
      answer = ap₂ (answered e) w.count v.count ∙ ap (with_figures e (length (encode_goal x.last)) (length (encode_goal x.said))) (inv x.why);
      area = laid-over w;
      answer_area = laid-over v;
    })
