-- The run is what document 01's "Detection states" tell, and nothing else.
use Rattle.std.specs.Prelude.{ℕ, zero, suc, ◌-◌, ◌≤◌, ◌≡◌, refl, ◌↔◌, true}
use Rattle.std.proofs.Common.{arith, sym as inv, ap, ◌∙◌, subst, true≢false}
use Rattle.std.proofs.Math.Option.{some, none}
use mathlib.Core.List.{[], ◌∷◌, nil≢cons}
use Rattle.terms.specs.Node.{Expr, same_expr}
use Rattle.terms.specs.Row.{Formulas}
use Rattle.terms.specs.Number.{Numbered}
use Rattle.terms.specs.Cases.{cases}
use Rattle.loops.specs.Detect.{State, start, Verdict, solved, loop, stuck, go_on, saves, move, Detected, Judged, judged, detect-zero, detect-back}
use Rattle.search.specs.Next.{Book, Goal, Clauses, NoneMeets, Next}
use Rattle.search.specs.Step.{next_goal}
use Rattle.search.proofs.NextLaws.{first-none, next_one}
use Rattle.search.proofs.NextTheorem.{no-next}
use Rattle.search.specs.Room.{fits}
use Rattle.search.specs.Known.{Knows}
use Rattle.search.specs.Run.{Closed, verdict, run, goal_at, state_at, Roomy, Closes, code_20, code_21, code_22, code_23, code_24, code_26, Runs}
use Rattle.search.proofs.RunLaws.{state-sound, state-next, roomier, runs-step}
use Rattle.search.proofs.RunTheorem.{run_iff}
use Rattle.search.proofs.PathLaws.{path-formulas, path-next}
use Rattle.search.proofs.TestLaws.{detected_iff, after_is, move-after, move-goal, big_iff}
use Rattle.search.specs.Told.{ComesBack, After, TooBig, Closing, at_20, at_21, at_22, at_23, at_24, at_26, Reached, first, then, Told}

-- For a book and a query of formulas, the query numbered, as checked ones are.
module _ (P : Book) (good : Clauses P) (q : Goal) (formulas : Formulas q) (numbered : Numbered q) where
  -- what a verdict on a state says, in document 01's words
  abbrev pub Turn : State Expr → Verdict Expr → Type 0
  Turn s solved = s.goal ≡ []
  Turn s (loop n) = ComesBack s × (n ≡ s.step - s.from)
  Turn s stuck = (f : Expr) × (g : Goal) × (s.goal ≡ f ∷ g) × (¬ ComesBack s) × NoneMeets f P
  Turn s (go_on s') = (¬ ComesBack s) × (k : ℕ) × Next P s.goal k s'.goal × After s s'.goal s'

  module _ (t : ℕ) (s : State Expr) (e : state_at P q t ≡ some s) where
    here : goal_at P q t ≡ some s.goal
    here = (state-sound P q t s e).1

    no-head : ¬ (s.goal ≡ []) → ¬ ComesBack s → next_goal P s.goal ≡ none → Turn s stuck
    no-head n c d = go s.goal refl
      where
        go : (g : Goal) → s.goal ≡ g → Turn s stuck
        go [] p = absurd (n p)
        go (f ∷ g) p = (f, g, p, c, no-next P good f g (subst Formulas p (path-formulas P good q formulas t s.goal here)).0 (ap (next_goal P) (inv p) ∙ d))

    pub turn : (v : Verdict Expr) → verdict P s ≡ v → Turn s v
    turn v f = go v f (subst (Judged same_expr (next_goal P) s) f (judged same_expr (next_goal P) s))
      where
        quiet : ¬ Detected s → ¬ ComesBack s
        quiet d c = d ((detected_iff P q numbered t s e).1 c)

        go : (v : Verdict Expr) → verdict P s ≡ v → Judged same_expr (next_goal P) s v → Turn s v
        go solved f j = j
        go (loop n) f j = ((detected_iff P q numbered t s e).0 j.0, j.1)
        go stuck f j = no-head j.0 (quiet j.1) j.2
        go (go_on s') f (n, d, h, p, m) =
            let there = state-next P q t s s' e f in
            let k = (path-next P good q formulas t s.goal s'.goal here).0 (state-sound P q (suc t) s' there).1 in
            let same : s'.goal ≡ h = ap (λ x. x.goal) m ∙ move-goal (saves s) s h in
            (quiet d, k.0, k.1, subst (λ g. After s g s') (inv same) (subst (After s h) (inv m) (move-after s h n)))

  -- The states of the run are the detector's.

  empty-next : {g : Goal} (k : ℕ) (h : Goal) → g ≡ [] → Next P g k h → ⊥
  empty-next k h z n = subst (λ x. Next P x k h) z n

  empty_back : {s : State Expr} → s.goal ≡ [] → ComesBack s → ⊥
  empty_back z c = nil≢cons (inv z ∙ c.front)

  stuck-next : {f : Expr} {g r : Goal} (k : ℕ) (h : Goal) → g ≡ f ∷ r → NoneMeets f P → Next P g k h → ⊥
  stuck-next {f} k h e m n = let x = subst (λ x. Next P x k h) e n in first-none P f k x.0 m x.1

  -- a state that goes on in document 01's words does so for the detector
  pub goes : (t : ℕ) (s s' : State Expr) → state_at P q t ≡ some s → (k : ℕ) (h : Goal) → ¬ ComesBack s → Next P s.goal k h → After s h s' → verdict P s ≡ go_on s'
  goes t s s' e k h c n a = go (verdict P s) refl (turn t s e (verdict P s) refl)
    where
      go : (v : Verdict Expr) → verdict P s ≡ v → Turn s v → verdict P s ≡ go_on s'
      go solved f z = absurd (empty-next k h z n)
      go (loop m) f z = absurd (c z.0)
      go stuck f (l, r, d, x, m) = absurd (stuck-next k h d m n)
      go (go_on s'') f (x, k', n', a') =
          let same = (next_one P s.goal k' k s''.goal h n' n).1 in
          f ∙ ap go_on (after_is s s''.goal s'' a' ∙ ap (move (saves s) s) same ∙ inv (after_is s h s' a))

  module _ (budget : ℕ) where
    pub reached-state : (s : State Expr) → Reached P budget q s → (state_at P q s.step ≡ some s) × (s.step ≤ budget) × Roomy P q s.step
    reached-state s first = (detect-zero same_expr (next_goal P) q, omega arith, λ j g a b. absurd (omega arith))
    reached-state s' (then {s = s} k h r c n l b a) =
        let (e, under, room) = reached-state s r in
        let there = state-next P q s.step s s' e (goes s.step s s' e k h c n a) in
        let (on, at) = state-sound P q (suc s.step) s' there in
        let same : s'.goal ≡ h = ap (λ x. x.goal) (after_is s h s' a) ∙ move-goal (saves s) s h in
        let fit : fits s'.goal ≡ true = cases (fits s'.goal) (λ f. f) (λ f. absurd (b ((big_iff h).0 (ap fits (inv same) ∙ f)))) in
        (ap (state_at P q) on ∙ there, omega arith, subst (Roomy P q) (inv on) (roomier P q s.step s'.goal at fit room))

    pub state-reached : (t : ℕ) (s : State Expr) → state_at P q t ≡ some s → t ≤ budget → Roomy P q t → Reached P budget q s
    state-reached zero s e l room = let o : start q ≡ s = cc (detect-zero same_expr (next_goal P) q) in subst (Reached P budget q) o first
    state-reached (suc t) s e l room =
        let (s₀, e₀, f) = detect-back same_expr (next_goal P) t q s e in
        let (c, k, n, a) = turn t s₀ e₀ (go_on s) f in
        let on = (state-sound P q t s₀ e₀).0 in
        then k s.goal (state-reached t s₀ e₀ (omega arith) (λ j g x y. room j g x (omega arith))) c n (λ z. omega arith)
        (λ b. true≢false (inv (room (suc t) s.goal (omega arith) (omega arith) (state-sound P q (suc t) s e).1) ∙ (big_iff s.goal).1 b)) a

    -- And they close alike.

    pub closes-closing : (t : ℕ) (s : State Expr) → state_at P q t ≡ some s → (c n : ℕ) → Closes P budget s c n → Closing P budget s c n
    closes-closing t s e c n (code_20 f) = at_20 (turn t s e solved f)
    closes-closing t s e c n (code_21 f) = let z = turn t s e (loop n) f in subst (Closing P budget s 21) (inv z.1) (at_21 z.0)
    closes-closing t s e c n (code_22 f k) = let (l, r, d, x, m) = turn t s e stuck f in at_22 l r d x m (subst (Knows P) d k)
    closes-closing t s e c n (code_26 f k) = let (l, r, d, x, m) = turn t s e stuck f in at_26 l r d x m (subst (λ g. ¬ Knows P g) d k)
    closes-closing t s e c n (code_23 {s' = s'} f b) = let (x, k, d, a) = turn t s e (go_on s') f in at_23 k s'.goal x d b
    closes-closing t s e c n (code_24 {s' = s'} f b h) = let (x, k, d, a) = turn t s e (go_on s') f in at_24 k s'.goal x d (λ z. omega arith) ((big_iff s'.goal).0 h)

    pub closing-closes : (s : State Expr) → s.step ≤ budget → (v : Verdict Expr) → verdict P s ≡ v → Turn s v → (c n : ℕ) → Closing P budget s c n → Closes P budget s c n
    closing-closes s l solved f z c n (at_20 e) = code_20 f
    closing-closes s l solved f z c n (at_21 b) = absurd (empty_back z b)
    closing-closes s l solved f z c n (at_22 a g e b m y) = absurd (nil≢cons (inv z ∙ e))
    closing-closes s l solved f z c n (at_26 a g e b m y) = absurd (nil≢cons (inv z ∙ e))
    closing-closes s l solved f z c n (at_23 k h b x e) = absurd (empty-next k h z x)
    closing-closes s l solved f z c n (at_24 k h b x e y) = absurd (empty-next k h z x)
    closing-closes s l (loop i) f z c n (at_20 e) = absurd (empty_back e z.0)
    closing-closes s l (loop i) f z c n (at_21 b) = subst (Closes P budget s 21) z.1 (code_21 f)
    closing-closes s l (loop i) f z c n (at_22 a g e b m y) = absurd (b z.0)
    closing-closes s l (loop i) f z c n (at_26 a g e b m y) = absurd (b z.0)
    closing-closes s l (loop i) f z c n (at_23 k h b x e) = absurd (b z.0)
    closing-closes s l (loop i) f z c n (at_24 k h b x e y) = absurd (b z.0)
    closing-closes s l stuck f (a, g, d, x, m) c n (at_20 e) = absurd (nil≢cons (inv e ∙ d))
    closing-closes s l stuck f (a, g, d, x, m) c n (at_21 b) = absurd (x b)
    closing-closes s l stuck f (a, g, d, x, m) c n (at_22 a' g' e b m' y) = code_22 f (subst (Knows P) (inv e) y)
    closing-closes s l stuck f (a, g, d, x, m) c n (at_26 a' g' e b m' y) = code_26 f (subst (λ g. ¬ Knows P g) (inv e) y)
    closing-closes s l stuck f (a, g, d, x, m) c n (at_23 k h b y e) = absurd (stuck-next k h d m y)
    closing-closes s l stuck f (a, g, d, x, m) c n (at_24 k h b y e z) = absurd (stuck-next k h d m y)
    closing-closes s l (go_on s') f (x, i, d, a) c n (at_20 e) = absurd (empty-next i s'.goal e d)
    closing-closes s l (go_on s') f (x, i, d, a) c n (at_21 b) = absurd (x b)
    closing-closes s l (go_on s') f (x, i, d, a) c n (at_22 a' g e b m y) = absurd (stuck-next i s'.goal e m d)
    closing-closes s l (go_on s') f (x, i, d, a) c n (at_26 a' g e b m y) = absurd (stuck-next i s'.goal e m d)
    closing-closes s l (go_on s') f (x, i, d, a) c n (at_23 k h b y e) = code_23 f e
    closing-closes s l (go_on s') f (x, i, d, a) c n (at_24 k h b y e z) =
        let same = (next_one P s.goal k i h s'.goal y d).1 in
        code_24 f (omega arith) ((big_iff s'.goal).1 (subst TooBig same z))

    -- the run by the detector without limits is document 01's
    pub runs_iff_told : (r : Closed) → Runs P budget q r ↔ Told P budget q r
    runs_iff_told r = (
      λ x. record {
        state = x.state;
        reached = state-reached r.steps x.state x.reached x.allowed x.roomy;
        closing = closes-closing r.steps x.state x.reached r.code r.span x.closes;
        steps = inv (runs-step P budget q r x);
        goal = x.goal;
      },
      λ y.
          let s = y.state in
          let (e, l, room) = reached-state s y.reached in
          record {
            state = s;
            reached = ap (state_at P q) y.steps ∙ e;
            allowed = omega (arith, y.steps);
            roomy = subst (Roomy P q) (inv y.steps) room;
            goal = y.goal;
            closes = closing-closes s l (verdict P s) refl (turn s.step s e (verdict P s) refl) r.code r.span y.closing;
          },
    )

    -- and so is the run: it closes with r just when document 01 tells r
    pub run-told : (r : Closed) → (run P budget q ≡ r) ↔ Told P budget q r
    run-told r = (λ e. (runs_iff_told r).0 ((run_iff P budget q r).0 e), λ y. (run_iff P budget q r).1 ((runs_iff_told r).1 y))
