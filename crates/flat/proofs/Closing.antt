-- The run of a flat query (document 02, C-20): "without limits of budget and room a run always says solved, stuck, unknown predicate or loop".
use Rattle.std.specs.Prelude.{ℕ, ◌≤◌, ◌≡◌, refl, List}
use Rattle.std.proofs.Math.Decide.{dec_lt}
use Rattle.std.proofs.Common.{arith, sym as inv, ap, ◌∙◌, subst, inl, inr}
use Rattle.std.proofs.Math.Option.{some, some-injective, none-ne-some}
use Rattle.terms.specs.Node.{Symbol, Expr, same_expr}
use Rattle.terms.specs.Number.{Numbered}
use Rattle.loops.specs.Detect.{State, Verdict, solved, loop, stuck, go_on, Judged, judged}
use Rattle.loops.proofs.Lemmas.{ClosesPath}
use Rattle.loops.proofs.Theorem.{went_on}
use Rattle.search.specs.Next.{Book, Goal}
use Rattle.search.specs.Step.{next_goal}
use Rattle.search.specs.StepLaws.{lawful}
use Rattle.search.specs.Known.{knows?}
use Rattle.search.specs.Run.{Closed, close, verdict, run, state_at, Roomy, Closes, code_20, code_21, code_22, code_23, code_24, code_26, Runs}
use Rattle.search.proofs.RunLaws.{closing, runs-step}
use Rattle.search.proofs.RunTheorem.{run_iff, run-runs}
use Rattle.flat.specs.Flat.{FlatGoal, IsFlatBook}
use Rattle.flat.proofs.Theorem.{flat-closes}

-- solved, loop, stuck, unknown predicate
pub data Settled : ℕ → Type 0 where
  settled_20 : Settled 20
  settled_21 : Settled 21
  settled_22 : Settled 22
  settled_26 : Settled 26

module _ (P : Book) (q : Goal) where
  -- a state that closes the path does not go on
  no_more : (s s' : State Expr) → ClosesPath same_expr (next_goal P) (lawful P) q s → verdict P s ≡ go_on s' → ⊥
  no_more s s' c e =
      let j = subst (Judged same_expr (next_goal P) s) e (judged same_expr (next_goal P) s) in
      elim c [ inl n ↦ none-ne-some j.2 (inv n ∙ j.3) | inr d ↦ j.1 d ]

  -- and closes a run that comes to it, with one of the four
  closes_so : (budget : ℕ) (s : State Expr) → ClosesPath same_expr (next_goal P) (lawful P) q s → (c : ℕ) × (n : ℕ) × Settled c × Closes P budget s c n
  closes_so budget s c = go (verdict P s) refl
    where
      go : (v : Verdict Expr) → verdict P s ≡ v → (c : ℕ) × (n : ℕ) × Settled c × Closes P budget s c n
      go solved e = (20, 0, settled_20, code_20 e)
      go (loop n) e = (21, n, settled_21, code_21 e)
      go stuck e = elim (knows? P s.goal) [ yes k ↦ (22, 0, settled_22, code_22 e k) | no k ↦ (26, 0, settled_26, code_26 e k) ]
      go (go_on s') e = absurd (no_more s s' c e)

module _ (ps : List Symbol) (cs : List ℕ) (P : Book) (book : IsFlatBook ps cs P) (q : Goal) (query : FlatGoal ps cs q) (numbered : Numbered q) where
  -- so many steps, and no more, are taken without limits
  pub enough : ℕ
  enough = (flat-closes ps cs P book q query numbered).0

  at_end : (s : State Expr) × (state_at P q enough ≡ some s) × ClosesPath same_expr (next_goal P) (lawful P) q s
  unfolding enough
  at_end = let (t, s, e, c) = flat-closes ps cs P book q query numbered in (s, e, c)

  -- a run that has the budget and the room for them
  pub flat-run-closes : (budget : ℕ) → enough ≤ budget → Roomy P q enough → Settled (run P budget q).code
  flat-run-closes budget l room =
      let (s, e, c) = at_end in
      let (code, span, settled, closes) = closes_so P q budget s c in
      subst (λ (r : Closed). Settled r.code) (inv ((run_iff P budget q (close code span s)).1 (closing P budget q enough s e l room closes))) settled

  -- and one that has the budget does not use it up, whatever the room
  pub flat_never_spent : (budget : ℕ) → enough ≤ budget → (run P budget q).code ≡ 23 → ⊥
  flat_never_spent budget l e = go (run P budget q) (run-runs P budget q) e
    where
      go : (r : Closed) → Runs P budget q r → r.code ≡ 23 → ⊥
      go r x c = spent x.closes c
        where
          on : (s' : State Expr) → verdict P x.state ≡ go_on s' → x.state.step ≡ budget → ⊥
          on s' v b =
              let (s, e, c) = at_end in
              let here = runs-step P budget q r x in
              elim (dec_lt enough r.steps) [
                | yes o ↦ (let (n, w) = went_on same_expr (next_goal P) (lawful P) q enough r.steps s x.state o e x.reached in no_more P q s n c w)
                | no o ↦ (
                    let same : r.steps ≡ enough = omega (arith, l, here, b, o) in
                    let eq : x.state ≡ s = some-injective x.state s (inv x.reached ∙ ap (state_at P q) same ∙ e) in
                    no_more P q s s' c (ap (verdict P) (inv eq) ∙ v))
              ]

          spent : {c n : ℕ} → Closes P budget x.state c n → c ≡ 23 → ⊥
          spent (code_20 f) k = omega arith
          spent (code_21 f) k = omega arith
          spent (code_22 f h) k = omega arith
          spent (code_23 {s'} f h) k = on s' f h
          spent (code_24 f h i) k = omega arith
          spent (code_26 f h) k = omega arith
