-- The run with its answer beside the run of document 01: without its answer it is that run as long as no 27 comes.
use Rattle.std.specs.Prelude.{ℕ, suc, ◌<◌, ◌≡◌, refl, true, false, []}
use Rattle.std.proofs.Common.{arith, sym as inv, ap, ap₂, ◌∙◌, subst}
use Rattle.std.proofs.Math.Option.{some}
use Rattle.terms.specs.Node.{Expr, same_expr}
use Rattle.loops.specs.Detect.{State, saves, Judged, judged}
use Rattle.search.specs.Next.{Book, Goal}
use Rattle.search.specs.Step.{next_goal}
use Rattle.search.specs.Room.{fits}
use Rattle.search.proofs.TestLaws.{move-goal}
use Rattle.search.specs.Run.{Closed, run, goal_at, Closes, code_20, code_21, code_22, code_23, code_24, code_26, Runs}
use Rattle.search.proofs.RunLaws.{state-sound}
use Rattle.search.proofs.RunTheorem.{run-runs, run_iff}
use Rattle.search.specs.Answer.{small, next_answer, answer_at, Answered, closed, answered, Slim, Ends, as_before, code_27, Answers}
use Rattle.search.proofs.AnswerLaws.{answer-next, answered_iff}

module _ (P : Book) (budget : ℕ) (q : Goal) where
  -- document 01 has no 27
  never_27 : {s : State Expr} {c n : ℕ} → Closes P budget s c n → ¬ (c ≡ 27)
  never_27 (code_20 f) e = omega arith
  never_27 (code_21 f) e = omega arith
  never_27 (code_22 f k) e = omega arith
  never_27 (code_23 f l) e = omega arith
  never_27 (code_24 f l h) e = omega arith
  never_27 (code_26 f n) e = omega arith

  empty_20 : {s : State Expr} {c n : ℕ} → Closes P budget s c n → c ≡ 20 → s.goal ≡ []
  empty_20 {s} (code_20 f) e = subst (Judged same_expr (next_goal P) s) f (judged same_expr (next_goal P) s)
  empty_20 (code_21 f) e = absurd (omega arith)
  empty_20 (code_22 f k) e = absurd (omega arith)
  empty_20 (code_23 f l) e = absurd (omega arith)
  empty_20 (code_24 f l h) e = absurd (omega arith)
  empty_20 (code_26 f n) e = absurd (omega arith)

  module _ (r : Answered) (x : Answers P budget q r) where
    -- the goal is the path's at the closing step
    pub answers-goal : goal_at P q r.steps ≡ some r.goal
    answers-goal = (state-sound P q r.steps x.state x.reached).1 ∙ ap some (inv x.goal)

    pub answered-closes : ¬ (r.code ≡ 27) → Closes P budget x.state r.code r.span
    answered-closes other = go x.ends other
      where
        go : {c n : ℕ} → Ends P q budget x.state c n → ¬ (c ≡ 27) → Closes P budget x.state c n
        go (as_before e) other = e
        go (code_27 f l h m) other = absurd (other refl)

    abbrev pub answered_runs_as : ¬ (r.code ≡ 27) → Runs P budget q (closed r)
    answered_runs_as other = record { state = x.state; reached = x.reached; allowed = x.allowed; roomy = x.roomy; goal = x.goal; closes = answered-closes other }

    -- with no 27 it is the run of document 01, and the answer of its last step beside it
    pub answered-run : ¬ (r.code ≡ 27) → run P budget q ≡ closed r
    answered-run other = (run_iff P budget q (closed r)).1 (answered_runs_as other)

    -- "Only code 21 has a span other than 0"
    pub answers-span : ¬ (r.code ≡ 21) → r.span ≡ 0
    answers-span n = go x.ends n
      where
        bare : {s : State Expr} {c i : ℕ} → Closes P budget s c i → ¬ (c ≡ 21) → i ≡ 0
        bare (code_20 f) n = refl
        bare (code_21 f) n = absurd (n refl)
        bare (code_22 f k) n = refl
        bare (code_23 f l) n = refl
        bare (code_24 f l h) n = refl
        bare (code_26 f k) n = refl

        go : {c i : ℕ} → Ends P q budget x.state c i → ¬ (c ≡ 21) → i ≡ 0
        go (as_before y) n = bare y n
        go (code_27 f l h m) n = refl

    -- "G empty, 20"
    pub solved-empty : r.code ≡ 20 → r.goal ≡ []
    solved-empty e = x.goal ∙ go x.ends e
      where
        go : {c n : ℕ} → Ends P q budget x.state c n → c ≡ 20 → x.state.goal ≡ []
        go (as_before y) e = empty_20 y e
        go (code_27 f l h m) e = absurd (omega arith)

  -- what code 27 says: the steps so far are those of a run that has used up its budget there; budget and room would let it go on, and "the next answer has over 4,096 nodes"
  pub record Full (r : Answered) : Type 0 where
    pub span : r.span ≡ 0
    pub so_far : run P r.steps q ≡ record { code = 23; steps = r.steps; span = 0; goal = r.goal }
    pub under : r.steps < budget
    pub next : Goal
    pub there : next_goal P r.goal ≡ some next
    pub room : fits next ≡ true
    pub big : small (next_answer P r.goal r.answer) ≡ false

  pub full-run : (r : Answered) → Answers P budget q r → r.code ≡ 27 → Full r
  full-run r x e = go r.code r.span refl refl x.ends e
    where
      go : (c n : ℕ) → r.code ≡ c → r.span ≡ n → Ends P q budget x.state c n → c ≡ 27 → Full r
      go c n d z (as_before y) e = absurd (never_27 y e)
      go c n d z (code_27 {s' = s'} f l h m) e =
          let (here, on) = state-sound P q r.steps x.state x.reached in
          let (w, v, g, p, s) = subst (Judged same_expr (next_goal P) x.state) f (judged same_expr (next_goal P) x.state) in
          record {
            span = z;
            so_far = (run_iff P r.steps q _).1 (record { state = x.state; reached = x.reached; allowed = omega arith; roomy = x.roomy; goal = x.goal; closes = code_23 f here });
            under = omega arith;
            next = g;
            there = ap (next_goal P) x.goal ∙ p;
            room = ap fits (inv (ap (λ y. y.goal) s ∙ move-goal (saves x.state) x.state g)) ∙ h;
            big = ap small (ap₂ (next_answer P) x.goal x.answer ∙ inv (answer-next P q r.steps x.state.goal g on p)) ∙ ap (λ t. small (answer_at P q (suc t))) (inv here) ∙ m;
          }

  -- where every answer up to the last step of document 01's run is small, no 27 comes: the two close alike
  pub no_27 : Slim P q (run P budget q).steps → (¬ ((answered P budget q).code ≡ 27)) × (closed (answered P budget q) ≡ run P budget q)
  no_27 slim = (λ e. never_27 x.closes (inv (ap (λ y. y.code) same) ∙ e), ap closed same)
    where
      r : Closed
      r = run P budget q

      x : Runs P budget q r
      x = run-runs P budget q

      same : answered P budget q ≡ record { code = r.code; steps = r.steps; span = r.span; goal = r.goal; answer = answer_at P q r.steps }
      same =
          (answered_iff P budget q _).1
          (record { state = x.state; reached = x.reached; allowed = x.allowed; roomy = x.roomy; slim = slim; goal = x.goal; answer = refl; ends = as_before x.closes })
