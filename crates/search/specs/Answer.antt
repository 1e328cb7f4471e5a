-- The run with its answer (document 02, C-11): "The run should carry the query's formulas along, with each step's unifier applied". They stand behind the goal as
-- a tail that is never resolved. "The loop test looks at the goal alone."
use Rattle.std.specs.Prelude.{ℕ, zero, suc, ◌-◌, ◌≤◌, ◌<◌, ◌≡◌, Bool, true, false, List, [], ◌∷◌, ◌++◌, map, leb, length, drop}
use Rattle.std.proofs.Math.Option.{none, some}
use Rattle.terms.specs.Node.{Expr}
use Rattle.terms.specs.Subst.{Subst, apply, MostGeneral}
use Rattle.terms.specs.Rename.{rename, Apart}
use Rattle.terms.specs.Number.{number_all}
use Rattle.loops.specs.Detect.{State, start, Verdict, solved, loop, stuck, go_on}
use Rattle.search.specs.Next.{Clause, Book, Goal, First, resolvent}
use Rattle.search.specs.Step.{next_goal}
use Rattle.search.specs.Room.{nodes, fits}
use Rattle.search.specs.Known.{stuck_code}
use Rattle.search.specs.Run.{Closed, verdict, goal_at, state_at, Roomy, Closes}

-- The answer after t steps, by the relation.

-- the clause c takes the goal of f and g to h and the answer a to b: by any names that are apart, under any most general unifier. "Goal variables keep their numbers;
-- variables found only in the answer come after them by first appearance": the two are numbered as one, the goal first.
pub record Carried (f : Expr) (g a : Goal) (c : Clause) (h b : Goal) : Type 0 where
  pub goal_names : ℕ → ℕ
  pub clause_names : ℕ → ℕ
  pub apart : Apart goal_names clause_names (f ∷ (g ++ a)) (c.head ∷ c.body)
  pub unifier : Subst
  pub general : MostGeneral unifier (rename goal_names f) (rename clause_names c.head)
  pub goal : h ≡ number_all [] (resolvent goal_names clause_names unifier c g)
  pub answer : h ++ b ≡ number_all [] (resolvent goal_names clause_names unifier c g ++ map (apply unifier) (map (rename goal_names) a))

-- after t steps the goal is g and the answer a
pub data Carries (P : Book) (q : Goal) : ℕ → Goal → Goal → Type 0 where
  none_yet : Carries P q 0 q q
  one_more : {t : ℕ} {f : Expr} {g a : Goal} (k : ℕ) (c : Clause) {h b : Goal} → Carries P q t (f ∷ g) a → First f P k c → Carried f g a c h b → Carries P q (suc t) h b

-- The same, computed.

-- the last n of a list
abbrev pub last : {F : Type 0} → ℕ → List F → List F
last n w = drop (length w - n) w

-- "27 .. if the next answer has over 4,096 nodes"
unfoldable pub small : Goal → Bool
small a = leb (nodes a) 4096

-- what the answer a behind the goal g comes to in one step
unfoldable pub next_answer : Book → Goal → Goal → Goal
next_answer P g a = elim (next_goal P (g ++ a)) [ none ↦ a | some w ↦ last (length a) w ]

-- the answer after t steps: what stands at the end of the path of the query before itself
unfoldable pub answer_at : Book → Goal → ℕ → Goal
answer_at P q t = elim (goal_at P (q ++ q) t) [ none ↦ q | some w ↦ last (length q) w ]

-- how a run with an answer closes: as a run, and with the answer of the closing state
pub record Answered : Type 0 where
  pub code : ℕ
  pub steps : ℕ
  pub span : ℕ
  pub goal : Goal
  pub answer : Goal

-- the run without its answer
abbrev pub closed : Answered → Closed
closed r = record { code = r.code; steps = r.steps; span = r.span; goal = r.goal }

-- the state s, with the answer a, closes the run with a code and a span
abbrev pub close_with : ℕ → ℕ → State Expr → Goal → Answered
close_with c n s a = record { code = c; steps = s.step; span = n; goal = s.goal; answer = a }

module _ (P : Book) where
  -- "G empty, 20; .. 21; no head unifies, 22" or 26; else `more` of the next state
  abbrev pub settle_with : State Expr → Goal → Verdict Expr → (State Expr → Answered) → Answered
  settle_with s a solved more = close_with 20 0 s a
  settle_with s a (loop n) more = close_with 21 n s a
  settle_with s a stuck more = close_with (stuck_code P s.goal) 0 s a
  settle_with s a (go_on s') more = more s'

  -- the run from a state and its answer, with so many steps left: "t equals the budget, 23; next goal too big, 24"; "27 after 24"; otherwise on
  unfoldable pub answered_from : ℕ → State Expr → Goal → Answered
  answered_from zero s a = settle_with s a (verdict P s) (λ s'. close_with 23 0 s a)
  answered_from (suc left) s a =
      settle_with s a (verdict P s) (λ s'. elim (fits s'.goal) [
        | true ↦ elim (small (next_answer P s.goal a)) [ true ↦ answered_from left s' (next_answer P s.goal a) | false ↦ close_with 27 0 s a ]
        | false ↦ close_with 24 0 s a
      ])

  -- the run of q by P: it starts with the query itself as the answer
  unfoldable pub answered : ℕ → Goal → Answered
  answered budget q = answered_from budget (start q) q

-- What a run with an answer is, told by the detector without limits and the answers. It is this and nothing else: `answered_iff` (AnswerLaws).

-- every answer up to step t has at most 4,096 nodes
abbrev pub Slim : Book → Goal → ℕ → Type 0
Slim P q t = (j : ℕ) → 0 < j → j ≤ t → small (answer_at P q j) ≡ true

-- the state closes as in a run without an answer, or the next answer is too big
pub data Ends (P : Book) (q : Goal) (budget : ℕ) (s : State Expr) : ℕ → ℕ → Type 0 where
  as_before : {c n : ℕ} → Closes P budget s c n → Ends P q budget s c n
  code_27 : {s' : State Expr} → verdict P s ≡ go_on s' → s.step < budget → fits s'.goal ≡ true → small (answer_at P q (suc s.step)) ≡ false → Ends P q budget s 27 0

-- the run of q closes with r and its answer
pub record Answers (P : Book) (budget : ℕ) (q : Goal) (r : Answered) : Type 0 where
  pub state : State Expr
  pub reached : state_at P q r.steps ≡ some state
  pub allowed : r.steps ≤ budget
  pub roomy : Roomy P q r.steps
  pub slim : Slim P q r.steps
  pub goal : r.goal ≡ state.goal
  pub answer : r.answer ≡ answer_at P q r.steps
  pub ends : Ends P q budget state r.code r.span
