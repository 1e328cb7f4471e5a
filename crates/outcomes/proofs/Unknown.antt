-- Code 26 (document 02, C-12) of a query that its check takes (C-18): the book has no rule for the leftmost formula's predicate number, with whatever arity. A forgotten argument
-- is refused by 17 before any step, so it is never taken for an unknown predicate.
use Rattle.std.specs.Prelude.{ℕ, ◌≡◌, refl, List, ◌∷◌, length}
use Rattle.std.proofs.Common.{arith, ap, subst}
use Rattle.std.proofs.Math.Decide.{ℕ_discrete}
use Rattle.std.proofs.Math.Option.{some}
use Rattle.loops.specs.Path.{path-zero}
use Rattle.terms.specs.Node.{predicate, Expr}
use Rattle.search.specs.Next.{Book, Goal}
use Rattle.search.specs.Step.{next_goal}
use Rattle.search.specs.Run.{goal_at}
use Rattle.search.specs.Known.{symbol_for, Known}
use Rattle.search.specs.Furthest.{Figures}
use Rattle.format.specs.Format.{GoodBook, GoodGoal, Bytes}
use Rattle.format.specs.Decode.{book_of, goal_of}
use Rattle.format.specs.Arities.{Suits}
use Rattle.areas.proofs.GoodGoals.{Tabled, tabled, AllTabled, path-tabled}
use Rattle.areas.proofs.SuitedGoals.{KnownNumber, path-suits, unknown-number}
use Rattle.outcomes.specs.declared.Picked.{Picked}
use Rattle.outcomes.specs.declared.Stepped.{Stepped}
use Rattle.outcomes.specs.Outcome.{refusal, room, step_answer, step_area, run_answer, pick_answer}
use Rattle.outcomes.proofs.Figures.{refusal-low, taken-by-code}
use Rattle.outcomes.proofs.Calls.{pick-refused}
use Rattle.outcomes.proofs.Images.{images}
use Rattle.outcomes.proofs.StepSays.{StepSays, step-taken, step-says}
use Rattle.outcomes.proofs.CallSays as CallSays
use Rattle.outcomes.proofs.CallSays.{PickSays, pick-says}
use Rattle.outcomes.proofs.RunSays as RunSays
use Rattle.outcomes.proofs.RunSays.{Means, run-means}

-- no head of the book has the predicate number of the goal's leftmost formula
pub record NumberUnknown (P : Book) (g : Goal) : Type 0 where
  pub first : Expr
  pub rest : Goal
  pub is : g ≡ first ∷ rest
  pub number : ℕ
  pub arity : ℕ
  pub begins : symbol_for first ≡ some (predicate number arity)
  pub none : KnownNumber P number → ⊥

begins_with : {f : Expr} → Tabled f → (p : ℕ) × (n : ℕ) × (symbol_for f ≡ some (predicate p n))
begins_with (tabled {p} {a} w q r o) = (p, a, refl)

first_of : (f : Expr) (rest g : Goal) → g ≡ f ∷ rest → AllTabled g → Tabled f
first_of f rest g e a = (subst AllTabled e a).0

module _ (P : Book) (good_book : GoodBook P) (q : Goal) (good_query : GoodGoal q) (suits : Suits P q) where
  on-path : (t : ℕ) (g : Goal) → goal_at P q t ≡ some g → (f : Expr) (rest : Goal) → g ≡ f ∷ rest → ¬ Known P f → NumberUnknown P g
  on-path t g at f rest e none =
      let b = begins_with (first_of f rest g e (path-tabled P good_book q good_query t g at)) in
      record { first = f; rest = rest; is = e; number = b.0; arity = b.1; begins = b.2; none = unknown-number P f rest (subst (Suits P) e (path-suits P good_book q good_query suits t g at)) none b.0 b.1 b.2 }

-- the leftmost formula, of a goal at which a code says that it is not known
abbrev NotKnown : Book → Goal → Type 0
NotKnown P g = (f : Expr) × (rest : Goal) × (g ≡ f ∷ rest) × ¬ Known P f

step_26 : {P : Book} {q : Goal} {area after : List ℕ} {r : Stepped} → StepSays P q area r after → r.code ≡ 26 → NotKnown P q
step_26 (StepSays.unknown f g e n k) c = (f, g, e, k)
step_26 (StepSays.solved e) c = absurd (omega arith)
step_26 (StepSays.stuck f g e n k w x) c = absurd (omega arith)
step_26 (StepSays.full k h n b) c = absurd (omega arith)
step_26 (StepSays.went k h n l m) c = absurd (omega arith)

pick_26 : {P : Book} {q : Goal} {r : Picked} → PickSays P q r → r.code ≡ 26 → NotKnown P q
pick_26 (CallSays.unknown f g e n k) c = (f, g, e, k)
pick_26 (CallSays.solved e) c = absurd (omega arith)
pick_26 (CallSays.stuck f g e n k w x) c = absurd (omega arith)
pick_26 (CallSays.chosen f g k d e x) c = absurd (omega arith)

run_26 : {P : Book} {budget steps : ℕ} {g a : Goal} {c n : ℕ} {w : Figures} → Means P budget steps g a c n w → c ≡ 26 → NotKnown P g
run_26 (RunSays.unknown f g e n i) k = (f, g, e, i)
run_26 (RunSays.solved e) k = absurd (omega arith)
run_26 (RunSays.loop f g e y) k = absurd (omega arith)
run_26 (RunSays.stuck f g e n i w x) k = absurd (omega arith)
run_26 (RunSays.spent j h n e) k = absurd (omega arith)
run_26 (RunSays.full j h n l b) k = absurd (omega arith)
run_26 (RunSays.long j h b n l f t) k = absurd (omega arith)

module _ (book query : List ℕ) (book-bytes : Bytes book) (query-bytes : Bytes query) where
  abbrev P : Book
  P = book_of book

  abbrev q : Goal
  q = goal_of query

  pub step-unknown : (area : List ℕ) → (step_answer book query area).code ≡ 26 → NumberUnknown P q
  step-unknown area c =
      let z = step-taken book query area (omega (arith, c)) in
      let good = images book query book-bytes query-bytes (length area) z in
      let n = step_26 ((step-says book query area book-bytes query-bytes z (step_answer book query area) (step_area book query area)).0 (refl, refl)) c in
      on-path P good.good_book q good.good_goal good.suits 0 q (path-zero (next_goal P) q) n.0 n.1 n.2 n.3

  pub pick-unknown : (pick_answer book query).code ≡ 26 → NumberUnknown P q
  pick-unknown c = elim (ℕ_discrete (refusal book query 16387).code 0) [
    | yes z ↦
        let good = images book query book-bytes query-bytes 16387 z in
        let n = pick_26 ((pick-says book query book-bytes query-bytes z (pick_answer book query)).0 refl) c in
        on-path P good.good_book q good.good_goal good.suits 0 q (path-zero (next_goal P) q) n.0 n.1 n.2 n.3
    | no d ↦ absurd (omega (arith, c, ap (λ (r : Picked). r.code) (pick-refused book query d), (refusal-low book query 16387).code))
  ]

  -- of a run, at the closing goal
  pub run-unknown : (budget : ℕ) (area space : List ℕ) → (run_answer book query budget area space).code ≡ 26
      → (g : Goal) × (goal_at P q (run_answer book query budget area space).steps ≡ some g) × NumberUnknown P g
  run-unknown budget area space c =
      let z = taken-by-code book query budget area space (omega (arith, c)) in
      let good = images book query book-bytes query-bytes (room area space) z in
      let says = run-means book query budget area space book-bytes query-bytes (omega (arith, c)) in
      let n = run_26 says.means c in
      (says.goal, says.reached, on-path P good.good_book q good.good_goal good.suits (run_answer book query budget area space).steps says.goal says.reached n.0 n.1 n.2 n.3)
