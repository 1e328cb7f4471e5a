-- Why it is stuck, over bytes (document 02, C-19): "The step, the pick and the run all hand on the clause that got furthest (lowest number on equal counts) and that
-- argument. With every code but 22 these two figures are 0".
use Rattle.std.specs.Prelude.{ℕ, ◌≤◌, ◌<◌, ◌≡◌, refl, List, ◌∷◌, length}
use Rattle.std.proofs.Common.{arith, sym as inv, ap, ◌∙◌, subst}
use Rattle.std.proofs.Math.Decide.{ℕ_discrete}
use Rattle.std.proofs.Math.Option.{some}
use Rattle.terms.specs.Node.{Expr}
use Rattle.terms.specs.Row.{Row, Formulas}
use Rattle.search.specs.Next.{Book, Goal, Clauses}
use Rattle.search.specs.Room.{nodes}
use Rattle.search.specs.KnownLaws.{AtomHeads}
use Rattle.search.specs.Run.{goal_at}
use Rattle.search.specs.Pick as Pick
use Rattle.search.specs.Pick.{Pick, pick}
use Rattle.search.proofs.PickLaws.{pick_iff}
use Rattle.search.specs.Furthest.{Figures, Furthest, stuck_figures, figures, figures_22, figures-other}
use Rattle.format.specs.Format.{Bytes}
use Rattle.format.specs.Decode.{book_of, goal_of}
use Rattle.format.proofs.Premises.{book-clauses, goal_premises}
use Rattle.outcomes.specs.declared.Answer.{Answer}
use Rattle.outcomes.specs.declared.Picked.{Picked}
use Rattle.outcomes.specs.declared.Stepped.{Stepped}
use Rattle.outcomes.specs.Outcome.{refusal, room, closing, run_answer, step_answer, pick_answer, apply_answer}
use Rattle.outcomes.specs.Stepping.{answer-refused, answer-taken, single-refused, single-taken}
use Rattle.outcomes.specs.Running as Running
use Rattle.outcomes.proofs.Calls.{pick-refused, pick-taken}
use Rattle.outcomes.proofs.Figures.{refusal-low}
use Rattle.outcomes.proofs.Images.{images}
use Rattle.outcomes.proofs.Stuck.{good-heads, arguments-fit, stuck-says}
use Rattle.outcomes.proofs.StepSays.{StepSays, solved, stuck, unknown, full, went, step-taken, step-says}
use Rattle.outcomes.proofs.RunSays as RunSays
use Rattle.outcomes.proofs.RunSays.{Means, run-means}

-- The leftmost formula of the goal g fails against the clause number k at the argument a; no clause of its predicate and arity fails later, and none before k fails as
-- late (search, Furthest and Fail).
abbrev pub StuckAt : Book → Goal → ℕ → ℕ → Type 0
StuckAt P g k a = (f : Expr) × (rest : Goal) × (g ≡ f ∷ rest) × Furthest P f (record { clause = k; argument = a })

-- the clause is one of the book, the argument one of the formula
pub why-small : {P : Book} {g : Goal} {k a : ℕ} → Formulas g → StuckAt P g k a → (k < length P) × (a ≤ nodes g)
why-small formulas (f, rest, e, x) =
    let t = x.fails in
    (x.within, omega (arith, t.within, arguments-fit t.predicate t.ours (subst (Row 1) t.formula (subst Formulas e formulas).0), ap length t.formula, ap nodes e))

figures_0 : (P : Book) (code : ℕ) (g : Goal) → (code ≡ 22 → ⊥) → ((figures P code g).clause ≡ 0) × ((figures P code g).argument ≡ 0)
figures_0 P code g n = let e = figures-other P code g n in (ap (λ (w : Figures). w.clause) e, ap (λ (w : Figures). w.argument) e)

means-stuck : {P : Book} {budget steps : ℕ} {g a : Goal} {c n : ℕ} {w : Figures} → Means P budget steps g a c n w → c ≡ 22 → StuckAt P g w.clause w.argument
means-stuck (RunSays.solved e) z = absurd (omega arith)
means-stuck (RunSays.loop f g e y) z = absurd (omega arith)
means-stuck (RunSays.stuck f g e n i w x) z = (f, g, e, x)
means-stuck (RunSays.unknown f g e n i) z = absurd (omega arith)
means-stuck (RunSays.spent j h n e) z = absurd (omega arith)
means-stuck (RunSays.full j h n l b) z = absurd (omega arith)
means-stuck (RunSays.long j h b n l f t) z = absurd (omega arith)

says-stuck : {P : Book} {q : Goal} {area after : List ℕ} {r : Stepped} → StepSays P q area r after → r.code ≡ 22 → StuckAt P q r.furthest r.argument
says-stuck (solved e) z = absurd (omega arith)
says-stuck (stuck f g e n k w x) z = (f, g, e, x)
says-stuck (unknown f g e n k) z = absurd (omega arith)
says-stuck (full k h n b) z = absurd (omega arith)
says-stuck (went k h n l m) z = absurd (omega arith)

-- The run: of the goal that it closes with.
module _ (book query : List ℕ) (budget : ℕ) (area space : List ℕ) where
  abbrev answer : Answer
  answer = run_answer book query budget area space

  pub run-why : Bytes book → Bytes query → answer.code ≡ 22
      → (g : Goal) × (goal_at (book_of book) (goal_of query) answer.steps ≡ some g) × StuckAt (book_of book) g answer.furthest answer.argument
  run-why book-bytes query-bytes c = let m = run-means book query budget area space book-bytes query-bytes (omega (arith, c)) in (m.goal, m.reached, means-stuck m.means c)

  pub run-no-why : (answer.code ≡ 22 → ⊥) → (answer.furthest ≡ 0) × (answer.argument ≡ 0)
  run-no-why n = elim (ℕ_discrete (refusal book query (room area space)).code 0) [
    | yes z ↦
        let e = Running.answer-taken book query budget area space z in
        let c = closing book query budget in
        let w = figures_0 (book_of book) c.code c.goal (λ d. n (ap (λ (a : Answer). a.code) e ∙ d)) in
        (ap (λ (a : Answer). a.furthest) e ∙ w.0, ap (λ (a : Answer). a.argument) e ∙ w.1)
    | no x ↦ let e = Running.answer-refused book query budget area space x in (ap (λ (a : Answer). a.furthest) e, ap (λ (a : Answer). a.argument) e)
  ]

-- The single step: of the query's goal.
module _ (book query area : List ℕ) where
  abbrev stepped : Stepped
  stepped = step_answer book query area

  pub step-why : Bytes book → Bytes query → stepped.code ≡ 22 → StuckAt (book_of book) (goal_of query) stepped.furthest stepped.argument
  step-why book-bytes query-bytes c = says-stuck ((step-says book query area book-bytes query-bytes (step-taken book query area (omega (arith, c))) _ _).0 (refl, refl)) c

  pub step-no-why : (stepped.code ≡ 22 → ⊥) → (stepped.furthest ≡ 0) × (stepped.argument ≡ 0)
  step-no-why n = elim (ℕ_discrete (refusal book query (length area)).code 0) [
    | yes z ↦
        let e = answer-taken book query area z in
        let w = figures_0 (book_of book) _ (goal_of query) (λ d. n (ap (λ (a : Stepped). a.code) e ∙ d)) in
        (ap (λ (a : Stepped). a.furthest) e ∙ w.0, ap (λ (a : Stepped). a.argument) e ∙ w.1)
    | no x ↦ let e = answer-refused book query area x in (ap (λ (a : Stepped). a.furthest) e, ap (λ (a : Stepped). a.argument) e)
  ]

  -- The apply call has no figures.
  pub apply-no-why : (clause : ℕ) → ((apply_answer book query clause area).furthest ≡ 0) × ((apply_answer book query clause area).argument ≡ 0)
  apply-no-why clause = elim (ℕ_discrete (refusal book query (length area)).code 0) [
    | yes z ↦ let e = single-taken book query area z _ in (ap (λ (a : Stepped). a.furthest) e, ap (λ (a : Stepped). a.argument) e)
    | no x ↦ let e = single-refused book query area x _ in (ap (λ (a : Stepped). a.furthest) e, ap (λ (a : Stepped). a.argument) e)
  ]

-- The pick: of the query's goal.
picks_stuck : {P : Book} {g : Goal} {p : Pick} → AtomHeads P → Clauses P → Formulas g → Pick.Picks P g p → p.code ≡ 22 → StuckAt P g (figures P p.code g).clause (figures P p.code g).argument
picks_stuck heads clauses formulas (Pick.solved_20 e) z = absurd (omega arith)
picks_stuck {P} {g} heads clauses formulas (Pick.stuck_22 f r e n k) z =
    (f, r, e, subst (Furthest P f) (inv (figures_22 P g ∙ ap (stuck_figures P) e)) (stuck-says P heads clauses f (subst Formulas e formulas).0 k n))
picks_stuck heads clauses formulas (Pick.unknown_26 f r e n k) z = absurd (omega arith)
picks_stuck heads clauses formulas (Pick.chosen_25 f r k c e p) z = absurd (omega arith)

module _ (book query : List ℕ) where
  abbrev picked : Picked
  picked = pick_answer book query

  pub pick_good : picked.code ≡ 22 → (refusal book query 16387).code ≡ 0
  pick_good c = elim (ℕ_discrete (refusal book query 16387).code 0) [
    | yes z ↦ z
    | no n ↦ absurd (omega (arith, c, ap (λ (r : Picked). r.code) (pick-refused book query n), (refusal-low book query 16387).code))
  ]

  pub pick-why : Bytes book → Bytes query → picked.code ≡ 22 → StuckAt (book_of book) (goal_of query) picked.furthest picked.argument
  pick-why book-bytes query-bytes c =
      let good = images book query book-bytes query-bytes 16387 (pick_good c) in
      let P = book_of book in
      let q = goal_of query in
      let clauses = book-clauses P good.good_book in
      let formulas = (goal_premises q good.good_goal).0 in
      let is = pick-taken book query (pick_good c) in
      let code = inv (ap (λ (r : Picked). r.code) is) ∙ c in
      let says = picks_stuck (good-heads P good.good_book) clauses formulas ((pick_iff P clauses q formulas (pick P q)).0 refl) code in
      subst (λ (r : Picked). StuckAt P q r.furthest r.argument) (inv is) says

  pub pick-no-why : (picked.code ≡ 22 → ⊥) → (picked.furthest ≡ 0) × (picked.argument ≡ 0)
  pick-no-why n = elim (ℕ_discrete (refusal book query 16387).code 0) [
    | yes z ↦
        let e = pick-taken book query z in
        let w = figures_0 (book_of book) _ (goal_of query) (λ d. n (ap (λ (a : Picked). a.code) e ∙ d)) in
        (ap (λ (a : Picked). a.furthest) e ∙ w.0, ap (λ (a : Picked). a.argument) e ∙ w.1)
    | no x ↦ let e = pick-refused book query x in (ap (λ (a : Picked). a.furthest) e, ap (λ (a : Picked). a.argument) e)
  ]
