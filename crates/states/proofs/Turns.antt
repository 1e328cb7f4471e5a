-- The states of the search, as the loop holds them: how one closes, and how the next one is held.
use Prim.Native.Nat.{ℕ, suc, ◌-◌, ◌≤◌, ◌<◌}
use native.Mathlib.Omega.{arith}
use mathlib.Core.Path.{◌≡◌, refl, sym as inv, ap, ◌∙◌, subst}
use mathlib.Core.Bool.{Bool, true, false, ◌&&◌}
use mathlib.Core.Option.{Option, none, some}
use mathlib.Core.List.{List, [], ◌∷◌}
use lib.Dec.{leb}
use lib.ListN.{length, take}
use borrow.Author.Tests.{leb-true, leb-false}
use Rattle.terms.specs.Node.{Expr}
use Rattle.terms.specs.When.{◌⇒◌∣◌}
use Rattle.loops.specs.Detect.{State, solved, stuck, loop, go_on, Detected, saves, move}
use Rattle.search.specs.Next.{Book, Goal}
use Rattle.search.specs.Step.{next_goal}
use Rattle.search.specs.Room.{fits}
use Rattle.search.specs.Known.{Knows}
use Rattle.search.specs.Furthest.{Figures, no_figures, stuck_figures, figures, figures_22, figures-other}
use Rattle.search.specs.Run.{verdict, Closes, code_20, code_21, code_22, code_23, code_24, code_26}
use Rattle.search.proofs.RunLaws.{state-sound}
use Rattle.search.specs.Answer as Answer
use Rattle.search.specs.Answer.{small, next_answer, answer_at, close_with, as_before, code_27}
use Rattle.search.proofs.AnswerLaws.{answer-next, ending, answered_iff}
use Rattle.words.specs.Held.{GoalIn}
use Rattle.detector.specs.declared.Detector.{Detector}
use Rattle.std.specs.declared.option.Option.{Option as Maybe}
use Rattle.states.specs.declared.Place.{Place}
use Rattle.states.specs.declared.Ended.{Ended}
use Rattle.std.specs.declared.option.Option.TheVariants.{Some, None}
use Rattle.std.specs.declared.result.Result.{Result}
use Rattle.std.specs.declared.result.Result.TheVariants.{Ok, Err}
use Rattle.detector.specs.Detecting.{judgement}
use Rattle.states.specs.States.{Equal, Reached, Ends, closed, Opens, Turned, stuck_at}
use Rattle.states.proofs.Verdicts.{verdict-is, moved-goal}
use Rattle.states.proofs.Fronts.{held-empty, saved-same, saved-other}

-- the turn that comes of the detector's verdict
abbrev pub turn_of : Detector → ℕ → ℕ → ℕ → ℕ → ℕ → Maybe ℕ → Result Place Ended
turn_of d n m w k front (Some span) = Err (closed 21 d span n m w)
turn_of d n m w k front None = Ok (record { detector = d; words = n; formulas = m; answer = w; kept = k; front = front })

module _ {P : Book} {q : Goal} {budget : ℕ} {goal saved : List ℕ} {d : Detector} {n m w k : ℕ} (r : Reached P q budget goal saved d n m w k) where
  abbrev s : State Expr
  s = r.state

  pub numbered : s.step ≡ d.step
  numbered = (state-sound P q d.step s r.reached).0

  -- a state that closes
  ends_with : (code span : ℕ) (v : Figures) → Answer.Ends P q budget s code span → figures P code s.goal ≡ v
      → Ends P q budget goal (record { code = code; steps = d.step; span = span; words = n; formulas = m; answer = w; clause = v.clause; argument = v.argument })
  ends_with code span v x why = record {
    last = s.goal;
    why = why;
    said = answer_at P q d.step;
    runs =
        (answered_iff P budget q (close_with code span s (answer_at P q d.step))).1 (ending P budget q d.step s r.reached r.allowed r.roomy r.slim x)
        ∙ ap (λ (t : ℕ). record { code = code; steps = t; span = span; goal = s.goal; answer = answer_at P q d.step }) numbered;
    holds = r.holds;
    within = r.within;
    answer = r.answer;
    answer_within = r.answer_within;
  }

  -- as without an answer
  ends : (code span : ℕ) (v : Figures) → Closes P budget s code span → figures P code s.goal ≡ v
      → Ends P q budget goal (record { code = code; steps = d.step; span = span; words = n; formulas = m; answer = w; clause = v.clause; argument = v.argument })
  ends code span v x why = ends_with code span v (as_before x) why

  pub solved-ends : m ≡ 0 → Ends P q budget goal (record { code = 20; steps = d.step; span = 0; words = n; formulas = m; answer = w; clause = 0; argument = 0 })
  solved-ends e = ends 20 0 no_figures (code_20 (verdict-is P s solved (held-empty s.goal r.holds e))) (figures-other P 20 s.goal (λ z. omega arith))

  -- the tests of a state that is not solved
  module _ (f : Expr) (g : Goal) (is : s.goal ≡ f ∷ g) (front : ℕ) (ends_at : front ≡ length f) where
    abbrev held : GoalIn (take n goal) m (f ∷ g)
    held = subst (GoalIn (take n goal) m) is r.holds

    here : Equal (take front goal) (take k saved) true → s.saved ≡ some f
    here e = saved-same goal n m f g held r.within front ends_at saved k s.saved r.keeps e

    looped : Equal (take front goal) (take k saved) true → d.length ≤ m → Detected s
    looped e l = (f, g, here e, is, omega (arith, r.least, r.holds.count))

    shorter : m < d.length → ¬ Detected s
    shorter l x = omega (arith, r.least, r.holds.count, x.4)

    other : Equal (take front goal) (take k saved) false → ¬ Detected s
    other e x = saved-other goal n m f g held r.within front ends_at saved k s.saved r.keeps e (x.2 ∙ ap some (let y : x.0 ≡ f = cc in y))

    opened : ¬ Detected s → Opens P q budget goal saved (record { detector = d; words = n; formulas = m; answer = w; kept = k; front = front })
    opened x = record { here = r; formula = f; rest = g; is = is; front = ends_at; new = x }

    turned : (same far : Bool) → leb d.length m ≡ far → Equal (take front goal) (take k saved) same → Turned P q budget goal saved (turn_of d n m w k front ((same && far) ⇒ Some (d.step - d.saved) ∣ None))
    turned true true e x =
        let y = looped x (leb-true d.length m e) in
        ends 21 (d.step - d.saved) no_figures (code_21 (verdict-is P s (loop (d.step - d.saved)) (y, omega (arith, numbered, r.from)))) (figures-other P 21 s.goal (λ z. omega arith))
    turned true false e x = opened (shorter (leb-false d.length m e))
    turned false far e x = opened (other x)

    pub judged-turn : (same : Bool) (v : Maybe ℕ) → v ≡ judgement d m same → Equal (take front goal) (take k saved) same → Turned P q budget goal saved (turn_of d n m w k front v)
    judged-turn same v e x = subst (λ (u : Maybe ℕ). Turned P q budget goal saved (turn_of d n m w k front u)) (inv e) (turned same (leb d.length m) refl x)

-- An open state, and what the book says to its goal.
module _ {P : Book} {q : Goal} {budget : ℕ} {goal saved : List ℕ} {p : Place} (o : Opens P q budget goal saved p) where
  abbrev state : State Expr
  state = o.here.state

  filled : ¬ (state.goal ≡ [])
  filled e = omega (arith, ap length (inv o.is ∙ e))

  abbrev Next : Option Goal → Type 0
  Next h = next_goal P (o.formula ∷ o.rest) ≡ h

  next_of : (h : Option Goal) → Next h → next_goal P state.goal ≡ h
  next_of h e = ap (next_goal P) o.is ∙ e

  pub goes_on : (h : Goal) → Next (some h) → verdict P state ≡ go_on (move (saves state) state h)
  goes_on h e = verdict-is P state (go_on (move (saves state) state h)) (filled, o.new, h, next_of (some h) e, refl)

  abbrev Closing : ℕ → Type 0
  Closing code = Turned P q budget goal saved (Err (closed code p.detector 0 p.words p.formulas p.answer))

  halts : Next none → verdict P state ≡ stuck
  halts e = verdict-is P state stuck (filled, o.new, next_of none e)

  pub stuck-ends : (k a : ℕ) → Next none → Knows P (o.formula ∷ o.rest) → stuck_figures P (o.formula ∷ o.rest) ≡ record { clause = k; argument = a }
      → Turned P q budget goal saved (Err (stuck_at p k a))
  stuck-ends k a e h w =
      ends o.here 22 0 (record { clause = k; argument = a }) (code_22 (halts e) (subst (Knows P) (inv o.is) h))
      (figures_22 P state.goal ∙ ap (stuck_figures P) o.is ∙ w)

  bare : (code : ℕ) → Closes P budget state code 0 → ¬ (code ≡ 22) → Closing code
  bare code x n = ends o.here code 0 no_figures x (figures-other P code state.goal n)

  pub unknown-ends : Next none → ¬ Knows P (o.formula ∷ o.rest) → Closing 26
  unknown-ends e n = bare 26 (code_26 (halts e) (subst (λ g. ¬ Knows P g) (inv o.is) n)) (λ z. omega arith)

  pub spent_ends : (h : Goal) → Next (some h) → p.detector.step ≡ budget → Closing 23
  spent_ends h e l = bare 23 (code_23 (goes_on h e) (numbered o.here ∙ l)) (λ z. omega arith)

  pub full-ends : (h : Goal) → Next (some h) → (p.detector.step ≡ budget → ⊥) → fits h ≡ false → Closing 24
  full-ends h e l x =
      bare 24
      (code_24 (goes_on h e) (omega (arith, l, numbered o.here, o.here.allowed)) (ap fits (moved-goal P state (saves state) h) ∙ x))
      (λ z. omega arith)

  -- the goal that follows fits, and the answer that follows is too big
  pub over-ends : (h : Goal) → Next (some h) → (p.detector.step ≡ budget → ⊥) → fits h ≡ true → small (next_answer P (o.formula ∷ o.rest) (answer_at P q p.detector.step)) ≡ false → Closing 27
  over-ends h e l x big =
      let is = answer-next P q p.detector.step state.goal h (state-sound P q p.detector.step state o.here.reached).1 (next_of (some h) e) in
      ends_with o.here 27 0 no_figures
      (code_27 (goes_on h e) (omega (arith, l, numbered o.here, o.here.allowed)) (ap fits (moved-goal P state (saves state) h) ∙ x)
      (ap (λ t. small (answer_at P q (suc t))) (numbered o.here) ∙ ap small (is ∙ ap (λ g. next_answer P g (answer_at P q p.detector.step)) o.is) ∙ big))
      (figures-other P 27 state.goal (λ z. omega arith))
