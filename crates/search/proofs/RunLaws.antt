-- The run is what `Runs` says, a complete case analysis in which no two cases hold at once.
use Prim.Native.Nat.{ℕ, zero, suc, ◌+◌, ◌≤◌, ◌<◌}
use Rattle.std.proofs.Math.Decide.{dec_lt}
use Rattle.std.proofs.Common.{arith, sym as inv, ap, ◌∙◌, subst, inl, inr, true≢false, eq-eqb, ne_eqb}
use Rattle.std.specs.Prelude.{◌≡◌, refl, ◌⊎◌, Bool, true, false, eqb}
use Rattle.std.proofs.Math.Option.{some, some-injective}
use Rattle.terms.specs.Node.{Expr, same_expr}
use Rattle.terms.specs.Cases.{cases}
use Rattle.loops.specs.Detect.{State, Verdict, solved, loop, stuck, go_on, detect-on}
use Rattle.loops.proofs.EachState.{detect-sound}
use Rattle.loops.proofs.Theorem.{went_on}
use Rattle.search.specs.Next.{Book, Goal}
use Rattle.search.specs.Step.{next_goal}
use Rattle.search.specs.StepLaws.{lawful}
use Rattle.search.specs.Room.{fits}
use Rattle.search.specs.Known.{knows?, stuck_code, stuck-known, stuck-unknown}
use Rattle.search.specs.Run.{Closed, close, settle, verdict, run_from, goal_at, state_at, Roomy, Closes, code_20, code_21, code_22, code_23, code_24, code_26, Runs}

-- the code and the span by the verdict, the code where there is no next goal, and whether the budget is used up
abbrev code_of : ℕ → Bool → Verdict Expr → ℕ
code_of k b solved = 20
code_of k b (loop n) = 21
code_of k b stuck = k
code_of k true (go_on s) = 23
code_of k false (go_on s) = 24

abbrev span_of : Verdict Expr → ℕ
span_of solved = 0
span_of (loop n) = n
span_of stuck = 0
span_of (go_on s) = 0

module _ (P : Book) (q : Goal) where
  -- a state is numbered by its step, and its goal is the path's
  pub state-sound : (t : ℕ) (s : State Expr) → state_at P q t ≡ some s → (s.step ≡ t) × (goal_at P q t ≡ some s.goal)
  state-sound t s e = let i = detect-sound same_expr (next_goal P) (lawful P) t q s e in (i.0, rw i.0 at i.1.here)

  -- the state after one that goes on
  pub state-next : (t : ℕ) (s s' : State Expr) → state_at P q t ≡ some s → verdict P s ≡ go_on s' → state_at P q (suc t) ≡ some s'
  state-next t s s' e f = detect-on same_expr (next_goal P) t q s s' e f

  -- there is room one step further, if the goal there fits
  pub roomier : (t : ℕ) (g : Goal) → goal_at P q (suc t) ≡ some g → fits g ≡ true → Roomy P q t → Roomy P q (suc t)
  roomier t g e f room j h a b p = elim (dec_lt j (suc t)) [ yes c ↦ room j h a (omega arith) p | no c ↦ (let o : j ≡ suc t = omega arith in cc) ]

module _ (P : Book) (budget : ℕ) (q : Goal) where
  -- The run is such a run.

  -- a state that is reached, and closes
  pub closing : {c n : ℕ} (t : ℕ) (s : State Expr) → state_at P q t ≡ some s → t ≤ budget → Roomy P q t → Closes P budget s c n → Runs P budget q (close c n s)
  closing t s e l room c =
      let o = (state-sound P q t s e).0 in
      record { state = s; reached = ap (state_at P q) o ∙ e; allowed = omega arith; roomy = subst (Roomy P q) (inv o) room; goal = refl; closes = c }

  -- the verdict closes it, or else what comes of the next state
  settled : (t : ℕ) (s : State Expr) → state_at P q t ≡ some s → t ≤ budget → Roomy P q t
      → (more : State Expr → Closed) → ((s' : State Expr) → verdict P s ≡ go_on s' → Runs P budget q (more s')) → Runs P budget q (settle P s (verdict P s) more)
  settled t s e l room more then = go (verdict P s) refl
    where
      go : (v : Verdict Expr) → verdict P s ≡ v → Runs P budget q (settle P s v more)
      go solved f = closing t s e l room (code_20 f)
      go (loop n) f = closing t s e l room (code_21 f)
      go stuck f =
          elim (knows? P s.goal) [
            | yes k ↦ rw (stuck-known P s.goal k) (closing t s e l room (code_22 f k))
            | no n ↦ rw (stuck-unknown P s.goal n) (closing t s e l room (code_26 f n))
          ]
      go (go_on s') f = then s' f

  -- the next goal is too big, or else what comes of it
  room-tested : (t : ℕ) (s : State Expr) → state_at P q t ≡ some s → t < budget → Roomy P q t → (r : Closed) (s' : State Expr) → verdict P s ≡ go_on s'
      → (state_at P q (suc t) ≡ some s' → Roomy P q (suc t) → Runs P budget q r) → Runs P budget q (elim (fits s'.goal) [ true ↦ r | false ↦ close 24 0 s ])
  room-tested t s e l room r s' f then =
      let e' = state-next P q t s s' e f in
      cases (fits s'.goal)
      (λ h. rw h (then e' (roomier P q t s'.goal (state-sound P q (suc t) s' e').1 h room)))
      (λ h. rw h (closing t s e (omega arith) room (code_24 f (omega (arith, state-sound P q t s e)) h)))

  pub run-from-runs : (left t : ℕ) (s : State Expr) → t + left ≡ budget → state_at P q t ≡ some s → Roomy P q t → Runs P budget q (run_from P left s)
  unfolding run_from
  run-from-runs zero t s l e room = settled t s e (omega arith) room _ (λ s' f. closing t s e (omega arith) room (code_23 f (omega (arith, state-sound P q t s e))))
  run-from-runs (suc left) t s l e room = settled t s e (omega arith) room _ (λ s' f. room-tested t s e (omega arith) room (run_from P left s') s' f (run-from-runs left (suc t) s' (omega arith)))

  -- There is no other.

  -- a state that goes on closes only by a limit
  pub limit : {s s' : State Expr} {c n : ℕ} → verdict P s ≡ go_on s' → Closes P budget s c n → (s.step ≡ budget) ⊎ (fits s'.goal ≡ false)
  limit e (code_20 f) = inr (cc)
  limit e (code_21 f) = inr (cc)
  limit e (code_22 f k) = inr (cc)
  limit e (code_23 f l) = inl l
  limit e (code_24 f l h) = inr (cc)
  limit e (code_26 f n) = inr (cc)

  -- so no run closes before another
  not-before : (r r' : Closed) → Runs P budget q r → Runs P budget q r' → r.steps < r'.steps → ⊥
  not-before r r' x y l =
      let t = r.steps in
      let w = went_on same_expr (next_goal P) (lawful P) q t r'.steps x.state y.state l x.reached y.reached in
      let s' = w.0 in
      let g = (state-sound P q (suc t) s' (state-next P q t x.state s' x.reached w.1)).1 in
      elim (limit w.1 x.closes) [
        | inl h ↦ omega (arith, state-sound P q t x.state x.reached, y.allowed)
        | inr h ↦ true≢false (inv (y.roomy (suc t) s'.goal (omega arith) l g) ∙ h)
      ]

  -- and a state closes in one way
  closes_by : {s : State Expr} {c n : ℕ} → Closes P budget s c n → (c ≡ code_of (stuck_code P s.goal) (eqb s.step budget) (verdict P s)) × (n ≡ span_of (verdict P s))
  closes_by (code_20 f) = (rw f, rw f)
  closes_by (code_21 f) = (rw f, rw f)
  closes_by {s} (code_22 f k) = (rw (f, stuck-known P s.goal k), rw f)
  closes_by {s} (code_23 f l) = (rw (f, eq-eqb s.step budget l), rw f)
  closes_by {s} (code_24 f l h) = (rw (f, ne_eqb s.step budget (λ e. omega arith)), rw f)
  closes_by {s} (code_26 f n) = (rw (f, stuck-unknown P s.goal n), rw f)

  pub closes-one : {s : State Expr} {c c' n n' : ℕ} → Closes P budget s c n → Closes P budget s c' n' → (c ≡ c') × (n ≡ n')
  closes-one x y = let a = closes_by x in let b = closes_by y in (a.0 ∙ inv b.0, a.1 ∙ inv b.1)

  pub runs-one : (r r' : Closed) → Runs P budget q r → Runs P budget q r' → r ≡ r'
  runs-one r r' x y = λ i. record { code = by.0 i; steps = steps i; span = by.1 i; goal = (x.goal ∙ ap (λ s. s.goal) same ∙ inv y.goal) i }
    where
      steps : r.steps ≡ r'.steps
      steps = omega (arith, not-before r r' x y, not-before r' r y x)

      same : x.state ≡ y.state
      same = some-injective x.state y.state (inv x.reached ∙ ap (state_at P q) steps ∙ y.reached)

      by : (r.code ≡ r'.code) × (r.span ≡ r'.span)
      by = closes-one (subst (λ s. Closes P budget s r.code r.span) same x.closes) y.closes

  -- steps is the step of the closing state
  pub runs-step : (r : Closed) (x : Runs P budget q r) → x.state.step ≡ r.steps
  runs-step r x = (state-sound P q r.steps x.state x.reached).0

  -- and the goal is the path's there
  pub runs-goal : (r : Closed) → Runs P budget q r → goal_at P q r.steps ≡ some r.goal
  runs-goal r x = (state-sound P q r.steps x.state x.reached).1 ∙ ap some (inv x.goal)

  -- "Only code 21 has a span other than 0"
  pub runs-span : (r : Closed) → Runs P budget q r → ¬ (r.code ≡ 21) → r.span ≡ 0
  runs-span r x n = go r.code r.span x.closes n
    where
      go : (c i : ℕ) → Closes P budget x.state c i → ¬ (c ≡ 21) → i ≡ 0
      go c i (code_20 f) n = refl
      go c i (code_21 f) n = absurd (n refl)
      go c i (code_22 f k) n = refl
      go c i (code_23 f l) n = refl
      go c i (code_24 f l h) n = refl
      go c i (code_26 f k) n = refl
