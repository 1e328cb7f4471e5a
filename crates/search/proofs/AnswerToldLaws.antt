-- The run with its answer is what documents 01 and 02 tell, and nothing else.
use Rattle.std.specs.Prelude.{ℕ, suc, ◌≤◌, ◌≡◌, refl, ◌↔◌, true, ◌∷◌}
use Rattle.std.proofs.Common.{arith, sym as inv, ap, ◌∙◌, subst, true≢false}
use Rattle.std.proofs.Math.Option.{some}
use Rattle.terms.specs.Node.{Expr}
use Rattle.terms.specs.Row.{Formulas}
use Rattle.terms.specs.Number.{Numbered}
use Rattle.terms.specs.Cases.{cases}
use Rattle.loops.specs.Detect.{State, go_on, saves, move}
use Rattle.search.specs.Next.{Book, Goal, Clauses, First, Next}
use Rattle.search.specs.Step.{goal_in}
use Rattle.search.proofs.NextLaws.{first_one}
use Rattle.search.proofs.NextTheorem.{next_iff}
use Rattle.search.specs.Room.{nodes, fits}
use Rattle.search.specs.Run.{verdict, goal_at, state_at, Roomy}
use Rattle.search.proofs.RunLaws.{state-sound}
use Rattle.search.proofs.PathLaws.{path-formulas}
use Rattle.search.proofs.TestLaws.{move-after, move-goal, big_iff}
use Rattle.search.specs.Told.{After, save, keep, TooBig, Reached, first, then}
use Rattle.search.proofs.ToldLaws.{turn, goes, reached-state, state-reached, closes-closing, closing-closes}
use Rattle.search.specs.Answer.{Carries, none_yet, one_more, small, answer_at, Answered, answered, Slim, Ends, as_before, code_27, Answers}
use Rattle.search.proofs.AnswerLaws.{small_iff, large_iff, answer-zero, slimmer, answered_iff}
use Rattle.search.proofs.CarryLaws.{carried-goal, carried_on, carries_iff}
use Rattle.search.specs.AnswerTold.{NextWith, TooLong, ClosingWith, at_20_to_26, at_27, ReachedWith, first_with, then_with, ToldWith}

-- the goal goes on as without an answer
next-alone : (P : Book) (g a : Goal) (k : ℕ) (h b : Goal) → NextWith P g a k h b → Next P g k h
next-alone P (f ∷ g) a k h b (c, i, s) = (c, i, carried-goal f g a c h b s)
next-alone P mathlib.Core.List.[] a k h b x' = elim x' [ ]

carries_with : (P : Book) (q : Goal) (t : ℕ) (g a : Goal) (k : ℕ) (h b : Goal) → Carries P q t g a → NextWith P g a k h b → Carries P q (suc t) h b
carries_with P q t (f ∷ g) a k h b x (c, i, s) = one_more k c x i s
carries_with P q t mathlib.Core.List.[] a k h b x x3 = elim x3 [ ]

fits-true : (h : Goal) → ¬ TooBig h → fits h ≡ true
fits-true h n = cases (fits h) (λ e. e) (λ e. absurd (n ((big_iff h).0 e)))

pub fits-small : (h : Goal) → fits h ≡ true → ¬ TooBig h
fits-small h e b = true≢false (inv e ∙ (big_iff h).1 b)

-- the state after s has the goal h and one step more
after-step : {s s' : State Expr} {h : Goal} → After s h s' → (s'.step ≡ suc s.step) × (s'.goal ≡ h)
after-step (save f g p e) = (refl, refl)
after-step (keep n) = (refl, refl)

-- For a book and a query of formulas, the query numbered, as checked ones are.
module _ (P : Book) (good : Clauses P) (q : Goal) (formulas : Formulas q) (numbered : Numbered q) where
  -- where the goal goes on, the answer does
  pub next_both : (t : ℕ) (g : Goal) (k : ℕ) (h : Goal) → goal_at P q t ≡ some g → Next P g k h → NextWith P g (answer_at P q t) k h (answer_at P q (suc t))
  next_both t (f ∷ g) k h e n =
      let on = ap goal_in ((next_iff P good (f ∷ g) (path-formulas P good q formulas t (f ∷ g) e) k h).0 n) in
      let (j, c, i, s) = carried_on P good q formulas t f g h e on in
      (c, subst (λ m. First f P m c) (first_one P f j k c n.0 i n.1).0 i, s)
  next_both t mathlib.Core.List.[] k h e n = elim n [ ]

  module _ (budget : ℕ) where
    -- The states and their answers are the detector's and the path's.

    told-reached : {s : State Expr} {a : Goal} → ReachedWith P budget q s a → Reached P budget q s × Slim P q s.step × Carries P q s.step s.goal a
    told-reached first_with = (first, λ j a b. absurd (omega arith), none_yet)
    told-reached (then_with {s = s} {s' = s'} {a = a} k h b r back n late big long after) =
        let (x, slim, y) = told-reached r in
        let (on, same) = after-step after in
        let y' = carries_with P q s.step s.goal a k h b y n in
        let answer = ((carries_iff P good q formulas (suc s.step) h b).0 y').1 in
        let fine = (small_iff (answer_at P q (suc s.step))).1 (subst (λ c. nodes c ≤ 4096) answer (omega arith)) in (
          then k h x back (next-alone P s.goal a k h b n) late big after,
          subst (Slim P q) (inv on) (slimmer P q s.step fine slim),
          subst (λ t. Carries P q t s'.goal b) (inv on) (subst (λ g. Carries P q (suc s.step) g b) (inv same) y'),
        )

    reached-told : {s : State Expr} → Reached P budget q s → Slim P q s.step → ReachedWith P budget q s (answer_at P q s.step)
    reached-told first slim = subst (ReachedWith P budget q _) (inv (answer-zero P q)) first_with
    reached-told (then {s = s} {s' = s'} k h r back n late big after) slim =
        let (on, same) = after-step after in
        let (e, l, room) = reached-state P good q formulas numbered budget s r in
        let here = (state-sound P q s.step s e).1 in
        let slim' = subst (Slim P q) on slim in
        let fine = (small_iff (answer_at P q (suc s.step))).0 (slim' (suc s.step) (omega arith) (omega arith)) in
        subst (λ t. ReachedWith P budget q s' (answer_at P q t)) (inv on)
        (then_with k h (answer_at P q (suc s.step)) (reached-told r (λ j a b. slim' j a (omega arith))) back (next_both s.step s.goal k h here n) late big (λ z. omega arith) after)

    -- And they close alike.

    ends-closing : {c n : ℕ} (t : ℕ) (s : State Expr) → state_at P q t ≡ some s → Ends P q budget s c n → ClosingWith P budget s (answer_at P q t) c n
    ends-closing {c} {n} t s e (as_before x) = at_20_to_26 (closes-closing P good q formulas numbered budget t s e c n x)
    ends-closing t s e (code_27 {s' = s'} f l h m) =
        let (on, here) = state-sound P q t s e in
        let (x, k, d, a) = turn P good q formulas numbered t s e (go_on s') f in
        at_27 k s'.goal (answer_at P q (suc t)) x (next_both t s.goal k s'.goal here d) (λ z. omega arith) (fits-small s'.goal h)
        ((large_iff (answer_at P q (suc t))).0 (ap (λ i. small (answer_at P q (suc i))) (inv on) ∙ m))

    closing-ends : {c n : ℕ} (s : State Expr) (a : Goal) → ReachedWith P budget q s a → ClosingWith P budget s a c n → Ends P q budget s c n
    closing-ends {c} {n} s a r (at_20_to_26 x) =
        let (e, l, room) = reached-state P good q formulas numbered budget s (told-reached r).0 in
        as_before (closing-closes P good q formulas numbered budget s l (verdict P s) refl (turn P good q formulas numbered s.step s e (verdict P s) refl) c n x)
    closing-ends s a r (at_27 k h b back n late big long) =
        let (x, slim, y) = told-reached r in
        let (e, l, room) = reached-state P good q formulas numbered budget s x in
        let after = move-after s h (λ z. subst (λ g. NextWith P g a k h b) z n) in
        let f = goes P good q formulas numbered s.step s (move (saves s) s h) e k h back (next-alone P s.goal a k h b n) after in
        let answer = ((carries_iff P good q formulas (suc s.step) h b).0 (carries_with P q s.step s.goal a k h b y n)).1 in
        code_27 f (omega arith) (ap fits (move-goal (saves s) s h) ∙ fits-true h big) ((large_iff (answer_at P q (suc s.step))).1 (subst TooLong answer long))

    pub answers_iff_told : (r : Answered) → Answers P budget q r ↔ ToldWith P budget q r
    answers_iff_told r = (
      λ x.
          let on = (state-sound P q r.steps x.state x.reached).0 in
          let states = state-reached P good q formulas numbered budget r.steps x.state x.reached x.allowed x.roomy in
          record {
            state = x.state;
            reached = subst (ReachedWith P budget q x.state) (ap (answer_at P q) on ∙ inv x.answer) (reached-told states (subst (Slim P q) (inv on) x.slim));
            closing = subst (λ a. ClosingWith P budget x.state a r.code r.span) (inv x.answer) (ends-closing r.steps x.state x.reached x.ends);
            steps = inv on;
            goal = x.goal;
          },
      λ y.
          let s = y.state in
          let (x, slim, c) = told-reached y.reached in
          let (e, l, room) = reached-state P good q formulas numbered budget s x in
          record {
            state = s;
            reached = ap (state_at P q) y.steps ∙ e;
            allowed = omega (arith, y.steps);
            roomy = subst (Roomy P q) (inv y.steps) room;
            slim = subst (Slim P q) (inv y.steps) slim;
            goal = y.goal;
            answer = ((carries_iff P good q formulas s.step s.goal r.answer).0 c).1 ∙ ap (answer_at P q) (inv y.steps);
            ends = closing-ends s r.answer y.reached y.closing;
          },
    )

    -- the run with its answer closes with r just when the documents tell r
    pub answered-told : (r : Answered) → (answered P budget q ≡ r) ↔ ToldWith P budget q r
    answered-told r = (λ e. (answers_iff_told r).0 ((answered_iff P budget q r).0 e), λ y. (answered_iff P budget q r).1 ((answers_iff_told r).1 y))
