-- The answer after t steps, step by step; and the run with its answer is what `Answers` says, and nothing else.
use Prim.Native.Nat.{ℕ, zero, suc, ◌+◌, ◌-◌, ◌≤◌, ◌<◌}
use Rattle.std.proofs.Math.Decide.{dec_lt}
use Rattle.std.proofs.Common.{arith, sym as inv, ap, ◌∙◌, inl, inr, true≢false, length-append, drop_at, leb-true, leb-false, le-leb}
use Rattle.std.specs.Prelude.{◌≡◌, refl, ◌↔◌, ◌⊎◌, true, false, List, ◌++◌, length}
use Rattle.std.proofs.Math.Path.{subst}
use Rattle.std.proofs.Math.Option.{some, some-injective}
use Rattle.std.proofs.lemmas.Bool.{lt-leb}
use Rattle.terms.specs.Node.{Expr, same_expr}
use Rattle.terms.specs.Cases.{cases}
use Rattle.loops.specs.Path.{path-zero, path-on, front-next, carry}
use Rattle.loops.specs.Detect.{State, start, Verdict, solved, loop, stuck, go_on, Judged, judged, detect-zero}
use Rattle.loops.proofs.Theorem.{went_on}
use Rattle.search.specs.Next.{Book, Goal}
use Rattle.search.specs.Step.{next_goal}
use Rattle.search.specs.StepLaws.{lawful}
use Rattle.search.specs.Room.{nodes, fits}
use Rattle.search.specs.Known.{knows?, stuck-known, stuck-unknown}
use Rattle.search.specs.Run.{verdict, goal_at, state_at, Roomy, Closes, code_20, code_21, code_22, code_23, code_24, code_26}
use Rattle.search.proofs.RunLaws.{state-sound, state-next, roomier, limit, closes-one}
use Rattle.search.specs.Answer.{last, small, next_answer, answer_at, Answered, close_with, settle_with, answered_from, answered, Slim, Ends, as_before, code_27, Answers}

-- the room of an answer, in numbers
pub small_iff : (a : Goal) → (small a ≡ true) ↔ (nodes a ≤ 4096)
unfolding small
small_iff a = (leb-true (nodes a) 4096, le-leb (nodes a) 4096)

pub large_iff : (a : Goal) → (small a ≡ false) ↔ (4096 < nodes a)
unfolding small
large_iff a = (leb-false (nodes a) 4096, lt-leb (nodes a) 4096)

-- what stands behind a list is the last of it
pub last-behind : {F : Type 0} (h r : List F) (n : ℕ) → length r ≡ n → last n (h ++ r) ≡ r
last-behind h r n e = drop_at h r (length (h ++ r) - n) (omega (arith, length-append h r))

-- The answer after t steps.
module _ (P : Book) where
  -- the answer behind a goal comes to as many formulas behind the next
  pub next-answer-whole : (g h a : Goal) → next_goal P g ≡ some h → (next_goal P (g ++ a) ≡ some (h ++ next_answer P g a)) × (length (next_answer P g a) ≡ length a)
  unfolding next_answer
  next-answer-whole g h a e =
      let f = (lawful P).front g h e a in
      let same : next_answer P g a ≡ f.0 = rw (f.1, next_answer) (last-behind h f.0 (length a) f.2) in
      rw same (f.1, f.2)

  module _ (q : Goal) where
    answer-behind : (t : ℕ) (g a : Goal) → goal_at P (q ++ q) t ≡ some (g ++ a) → length a ≡ length q → answer_at P q t ≡ a
    unfolding answer_at
    answer-behind t g a e l = rw (e, answer_at) (last-behind g a (length q) l)

    -- the query, at first
    pub answer-zero : answer_at P q 0 ≡ q
    answer-zero = answer-behind 0 q q (path-zero (next_goal P) (q ++ q)) refl

    -- it stands behind the goal in the path of the query before itself, and has as many formulas as the query
    pub answer-whole : (t : ℕ) (g : Goal) → goal_at P q t ≡ some g → (goal_at P (q ++ q) t ≡ some (g ++ answer_at P q t)) × (length (answer_at P q t) ≡ length q)
    answer-whole t g e =
        let c = carry (next_goal P) (lawful P) t q g e q in
        rw (answer-behind t g c.0 c.1 c.2) (c.1, c.2)

    -- a step takes it to the next answer
    pub answer-next : (t : ℕ) (g h : Goal) → goal_at P q t ≡ some g → next_goal P g ≡ some h → answer_at P q (suc t) ≡ next_answer P g (answer_at P q t)
    answer-next t g h e n =
        let (there, long) = answer-whole t g e in
        let (on, same) = next-answer-whole g h (answer_at P q t) n in
        answer-behind (suc t) h (next_answer P g (answer_at P q t)) (path-on (next_goal P) t (q ++ q) (g ++ answer_at P q t) there ∙ on) (same ∙ long)

    -- where goal and answer go on as one, the goal does so by itself, and what stands behind is the next answer
    pub answer-front : (t : ℕ) (g w : Goal) → goal_at P q t ≡ some g → 0 < length g → next_goal P (g ++ answer_at P q t) ≡ some w
        → (h : Goal) × (next_goal P g ≡ some h) × (w ≡ h ++ answer_at P q (suc t))
    answer-front t g w e l n =
        let (h, on) = front-next (next_goal P) (lawful P) g (answer_at P q t) w l n in
        let whole = (next-answer-whole g h (answer_at P q t) on).0 in
        (h, on, some-injective w (h ++ next_answer P g (answer_at P q t)) (inv n ∙ whole) ∙ ap (λ a. h ++ a) (inv (answer-next t g h e on)))

    -- every answer is small one step further, if that there is
    pub slimmer : (t : ℕ) → small (answer_at P q (suc t)) ≡ true → Slim P q t → Slim P q (suc t)
    slimmer t f slim j a b = elim (dec_lt j (suc t)) [ yes c ↦ slim j a (omega arith) | no c ↦ (let o : j ≡ suc t = omega arith in cc) ]

-- The run with its answer is as told.
module _ (P : Book) (budget : ℕ) (q : Goal) where
  -- a state that is reached, and ends
  pub ending : {c n : ℕ} (t : ℕ) (s : State Expr) → state_at P q t ≡ some s → t ≤ budget → Roomy P q t → Slim P q t → Ends P q budget s c n
      → Answers P budget q (close_with c n s (answer_at P q t))
  ending t s e l room slim x =
      let o = (state-sound P q t s e).0 in
      record {
        state = s;
        reached = ap (state_at P q) o ∙ e;
        allowed = omega arith;
        roomy = subst (Roomy P q) (inv o) room;
        slim = subst (Slim P q) (inv o) slim;
        goal = refl;
        answer = ap (answer_at P q) (inv o);
        ends = x;
      }

  -- the answer one step further, where the state goes on
  pub answer-on : (t : ℕ) (s s' : State Expr) → state_at P q t ≡ some s → verdict P s ≡ go_on s' → answer_at P q (suc t) ≡ next_answer P s.goal (answer_at P q t)
  answer-on t s s' e f =
      let (n, d, h, p, m) = subst (Judged same_expr (next_goal P) s) f (judged same_expr (next_goal P) s) in
      answer-next P q t s.goal h (state-sound P q t s e).1 p

  settled_with : (t : ℕ) (s : State Expr) → state_at P q t ≡ some s → t ≤ budget → Roomy P q t → Slim P q t → (more : State Expr → Answered)
      → ((s' : State Expr) → verdict P s ≡ go_on s' → Answers P budget q (more s')) → Answers P budget q (settle_with P s (answer_at P q t) (verdict P s) more)
  settled_with t s e l room slim more then = go (verdict P s) refl
    where
      close : {c n : ℕ} → Closes P budget s c n → Answers P budget q (close_with c n s (answer_at P q t))
      close x = ending t s e l room slim (as_before x)

      go : (v : Verdict Expr) → verdict P s ≡ v → Answers P budget q (settle_with P s (answer_at P q t) v more)
      go solved f = close (code_20 f)
      go (loop n) f = close (code_21 f)
      go stuck f =
          elim (knows? P s.goal) [
            | yes k ↦ rw (stuck-known P s.goal k) (close (code_22 f k))
            | no n ↦ rw (stuck-unknown P s.goal n) (close (code_26 f n))
          ]
      go (go_on s') f = then s' f

  -- the next goal is too big, or the next answer a is, or else what comes of them
  limits-tested : (t : ℕ) (s : State Expr) → state_at P q t ≡ some s → t < budget → Roomy P q t → Slim P q t → (s' : State Expr) → verdict P s ≡ go_on s'
      → (a : Goal) → answer_at P q (suc t) ≡ a → (r : Answered) → (state_at P q (suc t) ≡ some s' → Roomy P q (suc t) → Slim P q (suc t) → Answers P budget q r)
      → Answers P budget q (elim (fits s'.goal) [
        | true ↦ elim (small a) [ true ↦ r | false ↦ close_with 27 0 s (answer_at P q t) ]
        | false ↦ close_with 24 0 s (answer_at P q t)
      ])
  limits-tested t s e l room slim s' f a n r then =
      let e' = state-next P q t s s' e f in
      let on = (state-sound P q t s e).0 in
      cases (fits s'.goal)
      (λ h.
      cases (small a)
      (λ m. rw (h, m) (then e' (roomier P q t s'.goal (state-sound P q (suc t) s' e').1 h room) (slimmer P q t (ap small n ∙ m) slim)))
      (λ m. rw (h, m) (ending t s e (omega arith) room slim (code_27 f (omega arith) h (ap (λ n. small (answer_at P q (suc n))) on ∙ ap small n ∙ m)))))
      (λ h. rw h (ending t s e (omega arith) room slim (as_before (code_24 f (omega arith) h))))

  answered-from-runs : (left t : ℕ) (s : State Expr) → t + left ≡ budget → state_at P q t ≡ some s → Roomy P q t → Slim P q t → (a : Goal) → answer_at P q t ≡ a
      → Answers P budget q (answered_from P left s a)
  unfolding answered_from
  answered-from-runs zero t s l e room slim a p =
      rw (← p) (settled_with t s e (omega arith) room slim _ (λ s' f. ending t s e (omega arith) room slim (as_before (code_23 f (omega (arith, state-sound P q t s e))))))
  answered-from-runs (suc left) t s l e room slim a p =
      subst (λ b. Answers P budget q (answered_from P (suc left) s b)) p
      (settled_with t s e (omega arith) room slim _
      (λ s' f.
      let n = answer-on t s s' e f in
      limits-tested t s e (omega arith) room slim s' f _ n _ (λ e' room' slim'. answered-from-runs left (suc t) s' (omega arith) e' room' slim' _ n)))

  pub answered-runs : Answers P budget q (answered P budget q)
  unfolding answered
  answered-runs =
      answered-from-runs budget 0 (start q) (omega arith) (detect-zero same_expr (next_goal P) q) (λ j g a b. absurd (omega arith)) (λ j a b. absurd (omega arith)) q (answer-zero P q)

  -- There is no other.

  -- a state that goes on ends only by a limit
  ends-limit : {s s' : State Expr} {c n : ℕ} → verdict P s ≡ go_on s' → Ends P q budget s c n
      → (s.step ≡ budget) ⊎ (fits s'.goal ≡ false) ⊎ (small (answer_at P q (suc s.step)) ≡ false)
  ends-limit e (as_before x) = elim (limit P budget q e x) [ inl h ↦ inl h | inr h ↦ inr (inl h) ]
  ends-limit e (code_27 f l h m) = inr (inr m)

  not_sooner : (r r' : Answered) → Answers P budget q r → Answers P budget q r' → r.steps < r'.steps → ⊥
  not_sooner r r' x y l =
      let t = r.steps in
      let w = went_on same_expr (next_goal P) (lawful P) q t r'.steps x.state y.state l x.reached y.reached in
      let s' = w.0 in
      let g = (state-sound P q (suc t) s' (state-next P q t x.state s' x.reached w.1)).1 in
      elim (ends-limit w.1 x.ends) [
        | inl h ↦ omega (arith, state-sound P q t x.state x.reached, y.allowed)
        | inr (inl h) ↦ true≢false (inv (y.roomy (suc t) s'.goal (omega arith) l g) ∙ h)
        | inr (inr h) ↦ true≢false (inv (y.slim (suc t) (omega arith) l) ∙ ap (λ n. small (answer_at P q (suc n))) (inv (state-sound P q t x.state x.reached).0) ∙ h)
      ]

  -- code 27 stands only where no other does
  not-both : {s : State Expr} {s' : State Expr} {c n : ℕ} → Closes P budget s c n → verdict P s ≡ go_on s' → s.step < budget → fits s'.goal ≡ true → ⊥
  not-both x f l h = elim (limit P budget q f x) [ inl p ↦ omega arith | inr p ↦ true≢false (inv h ∙ p) ]

  ends-one : {s : State Expr} {c c' n n' : ℕ} → Ends P q budget s c n → Ends P q budget s c' n' → (c ≡ c') × (n ≡ n')
  ends-one (as_before x) (as_before y) = closes-one P budget q x y
  ends-one (as_before x) (code_27 f l h m) = absurd (not-both x f l h)
  ends-one (code_27 f l h m) (as_before y) = absurd (not-both y f l h)
  ends-one (code_27 f l h m) (code_27 f' l' h' m') = (refl, refl)

  pub answers_one : (r r' : Answered) → Answers P budget q r → Answers P budget q r' → r ≡ r'
  answers_one r r' x y = λ i. record {
    code = by.0 i;
    steps = steps i;
    span = by.1 i;
    goal = (x.goal ∙ ap (λ s. s.goal) same ∙ inv y.goal) i;
    answer = (x.answer ∙ ap (answer_at P q) steps ∙ inv y.answer) i;
  }
    where
      steps : r.steps ≡ r'.steps
      steps = omega (arith, not_sooner r r' x y, not_sooner r' r y x)

      same : x.state ≡ y.state
      same = some-injective x.state y.state (inv x.reached ∙ ap (state_at P q) steps ∙ y.reached)

      by : (r.code ≡ r'.code) × (r.span ≡ r'.span)
      by = ends-one (subst (λ s. Ends P q budget s r.code r.span) same x.ends) y.ends

  -- the run with its answer is what document 02 says, and nothing else
  pub answered_iff : (r : Answered) → (answered P budget q ≡ r) ↔ Answers P budget q r
  answered_iff r = (λ e. subst (Answers P budget q) e answered-runs, λ x. answers_one (answered P budget q) r answered-runs x)
