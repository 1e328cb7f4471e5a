-- The state after an open one, however its goal and its answer are held.
use Prim.Native.Nat.{ℕ, zero, suc, ◌+◌, ◌≤◌, ◌<◌}
use native.Mathlib.Omega.{arith}
use native.Mathlib.Numerals.{add-one}
use mathlib.Core.Path.{◌≡◌, refl, sym as inv, ap, ap₂, ◌∙◌, subst}
use mathlib.Core.Logic.{◌⊎◌, inl, inr}
use mathlib.Core.Bool.{Bool, true, false, ◌||◌}
use mathlib.Core.Option.{Option, none, some, some-injective}
use mathlib.Core.List.{List, ◌∷◌, ◌++◌}
use lib.Dec.{ltb}
use lib.ListN.{length, take, drop}
use Rattle.terms.specs.Node.{Expr}
use Rattle.terms.specs.Number.{Numbered}
use Rattle.loops.specs.Path.{path-zero, path-back}
use Rattle.loops.specs.Detect.{State, go_on, Detected, saves, leftmost, move}
use Rattle.loops.specs.Schedule.{scheduled}
use Rattle.search.specs.Next.{Book, Goal}
use Rattle.search.specs.Step.{next_goal}
use Rattle.search.specs.StepLaws.{next-numbered}
use Rattle.search.specs.Room.{fits}
use Rattle.search.specs.Answer.{small, next_answer, answer_at, Slim}
use Rattle.search.proofs.AnswerLaws.{answer-next, answer-whole, slimmer}
use Rattle.search.specs.Run.{state_at, Roomy}
use Rattle.search.proofs.RunLaws.{state-sound, state-next}
use Rattle.words.specs.Word.{Fits, nodes}
use Rattle.words.specs.Held.{FormulasIn, RowIn}
use Rattle.words.specs.HeldLaws.{row-goal, row-answer, row_of}
use Rattle.detector.specs.declared.Detector.{Detector}
use Rattle.detector.specs.Detecting.{due, moved}
use Rattle.states.specs.declared.Place.{Place}
use Rattle.states.specs.States.{Kept, Reached, Opens}
use Rattle.states.specs.Visiting.{Visits, Saves}
use Rattle.states.proofs.Twice.{numbered_twice}
use Rattle.states.proofs.Verdicts.{verdict-is, moved-goal, roomier}

-- a state that is held, and one whose row is written
module _ {P : Book} {q : Goal} {budget : ℕ} {saved : List ℕ} {d : Detector} {k : ℕ} where
  abbrev pub visited : {row : List ℕ} {n m w : ℕ} (r : Reached P q budget row saved d n m w k) (g : Goal) → r.state.goal ≡ g → Visits P q budget saved d k g (answer_at P q d.step)
  visited r g e = record {
    state = r.state;
    reached = r.reached;
    roomy = r.roomy;
    slim = r.slim;
    allowed = r.allowed;
    since = r.since;
    least = r.least;
    from = r.from;
    goal = e;
    answer = refl;
    keeps = r.keeps;
  }

  pub written : {g a : Goal} → Visits P q budget saved d k g a → (row : List ℕ) (n m w : ℕ) → n + w ≤ length row → RowIn (take (n + w) row) n m g a → Reached P q budget row saved d n m w k
  written x row n m w l h = record {
    state = x.state;
    reached = x.reached;
    roomy = x.roomy;
    slim = x.slim;
    allowed = x.allowed;
    since = x.since;
    least = x.least;
    from = x.from;
    holds = subst (FormulasIn 4096 (take n row) m) (inv x.goal) (row-goal row n w l h);
    within = omega arith;
    answer = subst (λ b. FormulasIn 8192 (take w (drop n row)) (length b) b) (inv x.answer) (row-answer row n w l h);
    answer_within = l;
    keeps = x.keeps;
  }

  -- the row in other storage
  abbrev pub reheld : {row : List ℕ} {n m w : ℕ} (row' : List ℕ) → take (n + w) row' ≡ take (n + w) row → n + w ≤ length row' → Reached P q budget row saved d n m w k → Reached P q budget row' saved d n m w k
  reheld {row} {n} {m} {w} row' e l r =
      let h = subst (λ x. RowIn x n m r.state.goal (answer_at P q d.step)) (inv e) (row_of row n w r.answer_within r.holds r.answer) in
      record {
        state = r.state;
        reached = r.reached;
        roomy = r.roomy;
        slim = r.slim;
        allowed = r.allowed;
        since = r.since;
        least = r.least;
        from = r.from;
        holds = row-goal row' n w l h;
        within = omega (arith, l);
        answer = row-answer row' n w l h;
        answer_within = l;
        keeps = r.keeps;
      }

-- the saved formula too
rekept : (saved saved' : List ℕ) (k : ℕ) (o : Option Expr) → take k saved' ≡ take k saved → length saved' ≡ length saved → Kept saved k o → Kept saved' k o
rekept saved saved' k none e l h = h
rekept saved saved' k (some f) e l h = (ap nodes e ∙ h.0, subst (Fits 4096) (inv e) h.1, h.2, omega (arith, l, h.3))

pub reopened : {P : Book} {q : Goal} {budget : ℕ} {row saved : List ℕ} {p : Place} (row' saved' : List ℕ) → take (p.words + p.answer) row' ≡ take (p.words + p.answer) row → p.words + p.answer ≤ length row'
    → take p.kept saved' ≡ take p.kept saved → length saved' ≡ length saved → Opens P q budget row saved p → Opens P q budget row' saved' p
reopened {P} {q} {budget} {row} {saved} {p} row' saved' same room e l o =
    let r = reheld row' same room o.here in
    record {
      here = record {
        state = r.state;
        reached = r.reached;
        roomy = r.roomy;
        slim = r.slim;
        allowed = r.allowed;
        since = r.since;
        least = r.least;
        from = r.from;
        holds = r.holds;
        within = r.within;
        answer = r.answer;
        answer_within = r.answer_within;
        keeps = rekept saved saved' p.kept r.state.saved e l r.keeps;
      };
      formula = o.formula;
      rest = o.rest;
      is = o.is;
      front = o.front;
      new = o.new;
    }

-- goal and answer are numbered as one: those of the query, which is numbered, and those after a step
pub numbered-at : (P : Book) (q : Goal) (t : ℕ) (s : State Expr) → Numbered q → state_at P q t ≡ some s → Numbered (s.goal ++ answer_at P q t)
numbered-at P q zero s n e =
    let whole = (answer-whole P q zero s.goal (state-sound P q zero s e).1).0 in
    subst Numbered (some-injective (q ++ q) (s.goal ++ answer_at P q zero) (inv (path-zero (next_goal P) (q ++ q)) ∙ whole)) (numbered_twice q n)
numbered-at P q (suc t) s n e =
    let b = path-back (next_goal P) t (q ++ q) (s.goal ++ answer_at P q (suc t)) (answer-whole P q (suc t) s.goal (state-sound P q (suc t) s e).1).0 in
    next-numbered P b.0 (s.goal ++ answer_at P q (suc t)) b.2

pub moved-step : (b : Bool) (d : Detector) (m : ℕ) → (moved b d m).step ≡ d.step + 1
moved-step true d m = refl
moved-step false d m = refl

module _ {P : Book} {q : Goal} {budget : ℕ} {saved : List ℕ} {d : Detector} {k : ℕ} {f : Expr} {g a : Goal} (x : Visits P q budget saved d k (f ∷ g) a) where
  abbrev before : State Expr
  before = x.state

  -- no loop: the goal is shorter than the saved length, or its first formula is not the saved one
  pub no_loop : ((length (f ∷ g) < d.length) ⊎ (f ≡ nodes (take k saved) → ⊥)) → ¬ Detected before
  no_loop (inl l) (b, r, s, e, n) = omega (arith, l, x.least, ap length x.goal, n)
  no_loop (inr o) (b, r, s, e, n) =
      let is : f ≡ b = (let y : ◌≡◌ {A = List Expr} (f ∷ g) (b ∷ r) = inv x.goal ∙ e in cc) in
      o (is ∙ inv (subst (Kept saved k) s x.keeps).0)

  numbered : before.step ≡ d.step
  numbered = (state-sound P q d.step before x.reached).0

  module _ (m : ℕ) (many : m ≡ length (f ∷ g)) where
    -- the detector saves where the state does
    saves-due : saves before ≡ due d m
    saves-due = ap₂ ◌||◌ (ap scheduled numbered) (ap₂ ltb (ap length x.goal ∙ inv many) (inv x.least))

    module _ (new : ¬ Detected before) (allowed : d.step < budget) (h : Goal) (is : next_goal P (f ∷ g) ≡ some h) (fit : fits h ≡ true) (little : small (next_answer P (f ∷ g) a) ≡ true) where
      abbrev after : Bool → State Expr
      after b = move b before h

      next_of : next_goal P before.goal ≡ some h
      next_of = ap (next_goal P) x.goal ∙ is

      reached-after : (b : Bool) → b ≡ due d m → state_at P q (suc d.step) ≡ some (after b)
      reached-after b e =
          state-next P q d.step before (after b) x.reached
          (verdict-is P before (go_on (move (saves before) before h)) ((λ z. omega (arith, ap length (inv x.goal ∙ z))), new, h, next_of, refl) ∙ ap (λ c. go_on (after c)) (saves-due ∙ inv e))

      roomy_after : (b : Bool) → b ≡ due d m → Roomy P q (suc d.step)
      roomy_after b e =
          roomier P q d.step (after b).goal (state-sound P q (suc d.step) (after b) (reached-after b e)).1 (ap fits (moved-goal P before b h) ∙ fit) x.roomy

      answer-after : answer_at P q (suc d.step) ≡ next_answer P (f ∷ g) a
      answer-after = answer-next P q d.step before.goal h (state-sound P q d.step before x.reached).1 next_of ∙ ap₂ (next_answer P) x.goal x.answer

      slim-after : Slim P q (suc d.step)
      slim-after = slimmer P q d.step (ap small answer-after ∙ little) x.slim

      pub visits-after : (b : Bool) → b ≡ due d m → (saved' : List ℕ) (k' : ℕ) → Saves f saved k b saved' k' → Visits P q budget saved' (moved b d m) k' h (next_answer P (f ∷ g) a)
      visits-after true e saved' k' z = record {
        state = after true;
        reached = rw add-one (reached-after true e);
        roomy = rw add-one (roomy_after true e);
        slim = rw add-one slim-after;
        allowed = omega (arith, allowed);
        since = omega arith;
        least = many ∙ inv (ap length x.goal);
        from = inv numbered;
        goal = refl;
        answer = rw add-one answer-after;
        keeps = subst (Kept saved' k') (ap leftmost (inv x.goal)) z;
      }
      visits-after false e saved' k' (z, i) = record {
        state = after false;
        reached = rw add-one (reached-after false e);
        roomy = rw add-one (roomy_after false e);
        slim = rw add-one slim-after;
        allowed = omega (arith, allowed);
        since = omega (arith, x.since);
        least = x.least;
        from = x.from;
        goal = refl;
        answer = rw add-one answer-after;
        keeps = rw (z, i) x.keeps;
      }
