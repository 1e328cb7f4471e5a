-- The span is the shortest (document 02, C-23): "no smaller number is a period of the reported leftmost formula", and "the goal at the last save was already primitive
-- cyclic". The last save was `span` steps before the closing state, so it is told here with no word of a save.
use Rattle.std.specs.Prelude.{ℕ, ◌-◌, ◌≤◌, ◌<◌, ◌≡◌, ◌∷◌}
use Rattle.std.proofs.Common.{arith, ap, ◌∙◌, subst}
use Rattle.std.proofs.Math.Option.{some}
use Rattle.terms.specs.Node.{Expr}
use Rattle.terms.specs.Number.{Numbered}
use Rattle.search.specs.Next.{Book, Goal}
use Rattle.search.specs.Run.{Closed, run, goal_at}
use Rattle.search.proofs.RunTheorem.{run-runs}
use Rattle.search.specs.Cycle.{CyclicFormula, PrimitiveCyclic}
use Rattle.search.proofs.Theorem.{loop-means}

-- of a run of q that closes with a loop after so many steps, with this span and this goal
pub record Shortest (P : Book) (q : Goal) (steps span : ℕ) (goal : Goal) : Type 0 where
  pub formula : Expr
  pub rest : Goal
  pub leftmost : goal ≡ formula ∷ rest
  -- the span is a period of the leftmost formula, and no number from 1 up and smaller than it is
  pub period : CyclicFormula P formula span
  pub shortest : (n : ℕ) → 1 ≤ n → n < span → ¬ CyclicFormula P formula n
  -- the goal so many steps before is there, begins with the same formula, and is primitive cyclic with that period
  pub within : span ≤ steps
  pub behind : Goal
  pub before : goal_at P q (steps - span) ≡ some (formula ∷ behind)
  pub primitive : PrimitiveCyclic P (formula ∷ behind) span

pub span-shortest : (P : Book) (budget : ℕ) (q : Goal) → Numbered q → let r : Closed = run P budget q in r.code ≡ 21 → Shortest P q r.steps r.span r.goal
span-shortest P budget q numbered e =
    let r = run P budget q in
    let k = loop-means P budget q numbered r (run-runs P budget q) e in
    let step : r.steps - r.span ≡ (run-runs P budget q).state.from = omega (arith, k.last_save) in
    record {
      formula = k.formula;
      rest = k.rest;
      leftmost = k.leftmost;
      period = k.returns;
      shortest = λ n a b. k.shortest n b;
      within = omega (arith, k.last_save);
      behind = k.behind;
      before = ap (goal_at P q) step ∙ k.saved_goal ∙ ap some k.saved_front;
      primitive = subst (λ g. PrimitiveCyclic P g r.span) k.saved_front k.primitive;
    }
