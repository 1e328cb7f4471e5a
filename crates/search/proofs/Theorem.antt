-- The theorems of the run with limits, in document 01's words: what its codes say, demand 3, and C-23. The query is numbered, as a checked query is.
use Rattle.std.specs.Prelude.{ℕ, suc, ◌+◌, ◌-◌, ◌*◌, ◌≤◌, max, ◌≡◌, refl, ◌↔◌, [], ◌∷◌}
use Rattle.std.proofs.Common.{arith, sym as inv, ap, ◌∙◌, subst}
use Rattle.std.proofs.Math.Option.{none, some, some-injective}
use Rattle.terms.specs.Node.{Expr, same_expr}
use Rattle.terms.specs.Row.{Formulas}
use Rattle.terms.specs.Number.{Numbered}
use Rattle.loops.specs.Cyclic as Loops
use Rattle.loops.specs.Detect.{State, Verdict, solved, loop, stuck as halted, go_on, Judged, judged}
use Rattle.loops.proofs.Theorem.{Loop, reported-loop, complete}
use Rattle.search.specs.Next.{Book, Goal, Clauses, NoneMeets, Next}
use Rattle.search.specs.Step.{next_goal}
use Rattle.search.specs.Known.{Knows}
use Rattle.search.specs.Run.{Closed, close, verdict, run, goal_at, Roomy, Closes, code_20, code_21, code_22, code_23, code_24, code_26, Runs}
use Rattle.search.specs.Cycle.{CyclicFormula, Cyclic}
use Rattle.search.specs.Codes.{Looping, Says, solved_20, loop_21, stuck_22, spent_23, full_24, unknown_26}
use Rattle.search.specs.StepLaws.{lawful}
use Rattle.search.proofs.NextTheorem.{no-next}
use Rattle.search.proofs.RunLaws.{state-sound, state-next, closing, runs-step, runs-goal}
use Rattle.search.proofs.RunTheorem.{run_iff}
use Rattle.search.proofs.PathLaws.{path-formulas, path-next, path-numbered}
use Rattle.search.proofs.TestLaws.{big_iff}
use Rattle.search.proofs.CycleLaws.{formula_iff, cyclic_iff}

-- the verdict of code 21
code-loop : {P : Book} {budget : ℕ} {s : State Expr} {c n : ℕ} → Closes P budget s c n → c ≡ 21 → verdict P s ≡ loop n
code-loop (code_20 f) e = absurd (omega arith)
code-loop (code_21 f) e = f
code-loop (code_22 f k) e = absurd (omega arith)
code-loop (code_23 f l) e = absurd (omega arith)
code-loop (code_24 f l h) e = absurd (omega arith)
code-loop (code_26 f n) e = absurd (omega arith)

module _ (P : Book) (budget : ℕ) (q : Goal) (numbered : Numbered q) where
  -- demand 3, the first half, and C-23
  pub loop-means : (r : Closed) (x : Runs P budget q r) → r.code ≡ 21 → Looping P q r x.state
  loop-means r x e = record {
    endless = k.forever;
    formula = f;
    rest = k.rest;
    leftmost = some-injective r.goal (f ∷ k.rest) (inv (runs-goal P budget q r x) ∙ k.here);
    returns = cyclic;
    shortest = λ n l c. k.shortest n l ((means n).0 c);
    last_save = k.save;
    saved = f ∷ k.others;
    saved_goal = k.before;
    behind = k.others;
    saved_front = refl;
    primitive = record { formula = f; rest = k.others; split = refl; cyclic = cyclic };
  }
    where
      k : Loop (next_goal P) q r.steps r.span x.state
      k = reported-loop same_expr (next_goal P) (lawful P) q r.steps r.span (x.state, x.reached, code-loop x.closes e)

      f : Expr
      f = k.formula

      means : (n : ℕ) → CyclicFormula P f n ↔ Loops.CyclicFormula (next_goal P) f n
      means n = formula_iff P f k.rest (path-numbered P q numbered r.steps (f ∷ k.rest) k.here) n

      cyclic : CyclicFormula P f r.span
      cyclic = (means r.span).1 k.cyclic

  -- demand 3, the second half: the goal at step s is cyclic with period r; the budget allows so many steps, and every goal up to there fits the room
  pub loop-in_time : (s r : ℕ) (g : Goal) → goal_at P q s ≡ some g → Cyclic P g r
      → let bound : ℕ = 2 * max s (2 * r - 1) + 2 * r - 2 in
      bound ≤ budget → Roomy P q bound → ((run P budget q).code ≡ 21) × ((run P budget q).steps ≤ bound)
  loop-in_time s r g e y allowed room =
      let c = complete same_expr (next_goal P) (lawful P) q s r g e ((cyclic_iff P g (path-numbered P q numbered s g e) r).0 y) in
      let (t, n, soon, k) = c in
      let runs = closing P budget q t k.0 k.1 (omega arith) (λ j h a b. room j h a (omega arith)) (code_21 k.2) in
      let same = (run_iff P budget q (close 21 n k.0)).1 runs in
      (ap (λ x. x.code) same, omega (arith, ap (λ x. x.steps) same, (state-sound P q t k.0 k.1).0))

module _ (P : Book) (good : Clauses P) (budget : ℕ) (q : Goal) (formulas : Formulas q) (numbered : Numbered q) (r : Closed) (x : Runs P budget q r) where
  -- the closing goal
  closing-goal : goal_at P q r.steps ≡ some r.goal
  closing-goal = runs-goal P budget q r x

  -- what the verdict on the closing state says of it
  verdict-says : (v : Verdict Expr) → verdict P x.state ≡ v → Judged same_expr (next_goal P) x.state v
  verdict-says v e = subst (Judged same_expr (next_goal P) x.state) e (judged same_expr (next_goal P) x.state)

  -- where it goes on there is a next goal
  goes_to : (s' : State Expr) → verdict P x.state ≡ go_on s' → (k : ℕ) × Next P r.goal k s'.goal
  goes_to s' e =
      let there = state-next P q r.steps x.state s' x.reached e in
      (path-next P good q formulas r.steps r.goal s'.goal closing-goal).0 (state-sound P q (suc r.steps) s' there).1

  -- where there is no next goal, no head unifies
  no_move : (f : Expr) (g : Goal) → r.goal ≡ f ∷ g → next_goal P (f ∷ g) ≡ none → NoneMeets f P
  no_move f g e d = no-next P good f g (subst Formulas e (path-formulas P good q formulas r.steps r.goal closing-goal)).0 d

  known-says : (g : Goal) → r.goal ≡ g → next_goal P g ≡ none → Knows P g → r.span ≡ 0 → Says P budget q r x.state 22
  known-says [] e d k z = absurd k
  known-says (f ∷ g) e d k z = stuck_22 f g e (no_move f g e d) k z

  unknown-says : (g : Goal) → r.goal ≡ g → ¬ (g ≡ []) → next_goal P g ≡ none → ¬ Knows P g → r.span ≡ 0 → Says P budget q r x.state 26
  unknown-says [] e n d k z = absurd (n refl)
  unknown-says (f ∷ g) e n d k z = unknown_26 f g e (no_move f g e d) k z

  closes-says : (c n : ℕ) → r.code ≡ c → r.span ≡ n → Closes P budget x.state c n → Says P budget q r x.state c
  closes-says c n e z (code_20 f) = solved_20 (x.goal ∙ verdict-says solved f) z
  closes-says c n e z (code_21 f) = loop_21 (loop-means P budget q numbered r x e)
  closes-says c n e z (code_22 f k) = known-says x.state.goal x.goal (verdict-says halted f).2 k z
  closes-says c n e z (code_23 {s' = s'} f l) = let m = goes_to s' f in spent_23 m.0 s'.goal m.1 (inv (runs-step P budget q r x) ∙ l) z
  closes-says c n e z (code_24 {s' = s'} f l h) = let m = goes_to s' f in full_24 m.0 s'.goal m.1 (omega (arith, runs-step P budget q r x)) ((big_iff s'.goal).0 h) z
  closes-says c n e z (code_26 f k) = let j = verdict-says halted f in unknown-says x.state.goal x.goal j.0 j.2 k z

  pub code-says : Says P budget q r x.state r.code
  code-says = closes-says r.code r.span refl refl x.closes
