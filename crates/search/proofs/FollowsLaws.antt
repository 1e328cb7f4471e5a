-- What the answer means (document 02, C-11; document 000, 1.3): one renaming takes the goal and the query under the composed unifiers of a derivation to the goal and the answer;
-- and every instance of the answer follows from the book where the same instance of the goal does, so for a solved query every instance at all.
use Rattle.std.specs.Prelude.{ℕ, zero, suc, ◌≡◌, List, [], ◌∷◌, ◌++◌, map}
use Rattle.std.proofs.Common.{arith, sym as inv, ap, ◌∙◌, subst, inl, inr}
use Rattle.std.proofs.Math.Option.{some, some-injective}
use Rattle.std.proofs.lemmas.List.{map-append, length-map}
use Rattle.terms.specs.Node.{Expr}
use Rattle.terms.specs.Row.{Every}
use Rattle.terms.specs.Subst.{Subst, apply, after}
use Rattle.terms.specs.SubstLaws.{apply-after}
use Rattle.terms.specs.Substitution.{Substitution}
use Rattle.terms.specs.Renaming.{Renaming}
use Rattle.terms.proofs.RenamingLaws.{variants_renamed}
use Rattle.terms.proofs.VariantLaws.{variants_flip}
use Rattle.search.specs.Next.{Clause, Book, Goal}
use Rattle.search.specs.Resolution.{Atomics, AtomicClauses, FirstUnifying}
use Rattle.search.specs.Run.{goal_at}
use Rattle.search.specs.Answer.{answer_at, Answered, Answers}
use Rattle.search.proofs.AnswerRuns.{answers-goal, solved-empty}
use Rattle.search.proofs.AnswerGoals.{split-alike, every-split}
use Rattle.search.specs.Derivation.{Derivation, begins, goes_on, Among, Follows, by_clause, Model}
use Rattle.search.proofs.DerivationLaws.{map-after, map-itself, after-substitution, derivation-substitution, derivation-path, path-derivation}

first-among : (P : Book) (f : Expr) (k : ℕ) (c : Clause) → FirstUnifying f P k c → Among c P
first-among (d ∷ P) f zero c p = inl (inv p.0)
first-among (d ∷ P) f (suc k) c p = inr (first-among P f k c p.1)
first-among [] f k c p = elim p [ ]

every-among : (Q : Expr → Type 0) (F : Expr → Expr) (l : List Expr) → Every Q (map F l) → (b : Expr) → Among b l → Q (F b)
every-among Q F (x ∷ l) p b (inl e) = subst (λ y. Q (F y)) (inv e) p.0
every-among Q F (x ∷ l) p b (inr i) = every-among Q F l p.1 b i
every-among Q F [] p b x'' = elim x'' [ ]

-- what follows holds wherever the clauses hold
pub follows-model : (P : Book) (M : Expr → Type 0) → Model P M → {f : Expr} → Follows P f → M f
follows-model P M holds (by_clause c i θ s body) = holds c i θ s (λ b j. follows-model P M holds (body b j))

module _ (P : Book) where
  -- one step back: where an instance of the resolvent follows, so does that of the goal
  step_follows : (f : Expr) (g : Goal) (c : Clause) (names mgu τ : Subst) → Among c P → Substitution names → Substitution mgu → Substitution τ → apply mgu f ≡ apply mgu (apply names c.head)
      → Every (Follows P) (map (apply τ) (map (apply mgu) (map (apply names) c.body ++ g))) → Every (Follows P) (map (apply (after τ mgu)) (f ∷ g))
  step_follows f g c names mgu τ i n m s equal all = (subst (Follows P) head (by_clause c i whole (after-substitution both n) body), parts.1)
    where
      σ : Subst
      σ = after τ mgu

      both : Substitution σ
      both = after-substitution s m

      whole : Subst
      whole = after σ names

      parts : Every (Follows P) (map (apply σ) (map (apply names) c.body)) × Every (Follows P) (map (apply σ) g)
      parts =
          every-split (Follows P) (map (apply σ) (map (apply names) c.body)) (map (apply σ) g)
          (subst (Every (Follows P)) (map-after τ mgu (map (apply names) c.body ++ g) ∙ map-append (apply σ) (map (apply names) c.body) g) all)

      body : (b : Expr) → Among b c.body → Follows P (apply whole b)
      body = every-among (Follows P) (apply whole) c.body (subst (Every (Follows P)) (map-after σ names c.body) parts.0)

      head : apply whole c.head ≡ apply σ f
      head = inv (apply-after σ names c.head) ∙ inv (apply-after τ mgu (apply names c.head)) ∙ ap (apply τ) (inv equal) ∙ apply-after τ mgu f

  -- so where an instance of a derivation's goal follows, so does that of the query under its substitution
  pub derivation-follows : {q : Goal} {t : ℕ} {g : Goal} {θ : Subst} → Derivation P q t g θ → (τ : Subst) → Substitution τ
      → Every (Follows P) (map (apply τ) g) → Every (Follows P) (map (apply τ) (map (apply θ) q))
  derivation-follows {q} begins τ s all = subst (λ h. Every (Follows P) (map (apply τ) h)) (inv (map-itself q)) all
  derivation-follows {q} (goes_on {f = f} {g = g} {θ = θ} k c names mgu d first apart general) τ s all =
      let m = general.unifier in
      let back = step_follows f g c names mgu τ (first-among P f k c first) apart.renaming.substitution m.substitution s m.equal all in
      subst (Every (Follows P)) (inv (map-after τ mgu (map (apply θ) q)) ∙ ap (map (apply τ)) (map-after mgu θ q))
      (derivation-follows d (after τ mgu) (after-substitution s m.substitution) back)

-- For a book and a query of atomic formulas.
module _ (P : Book) (good : AtomicClauses P) (q : Goal) (atomics : Atomics q) where
  -- "carry the query's formulas along, with each step's unifier applied": one renaming takes the derivation's goal to the path's, and the query under the composed unifiers to the answer
  pub record Computed (t : ℕ) (g : Goal) (θ : Subst) : Type 0 where
    pub names : Subst
    pub renaming : Renaming names
    pub goal : goal_at P q t ≡ some (map (apply names) g)
    pub answer : answer_at P q t ≡ map (apply names) (map (apply θ) q)

  pub derivation-answer : {t : ℕ} {g : Goal} {θ : Subst} → Derivation P q t g θ → Computed t g θ
  derivation-answer {t} {g} {θ} d =
      let a = derivation-path P good q atomics d in
      let (π, r, e) = (variants_renamed (g ++ map (apply θ) q) (a.goal ++ answer_at P q t)).0 (variants_flip a.same) in
      let parts = split-alike (map (apply π) g) (map (apply π) (map (apply θ) q)) a.goal (answer_at P q t) (inv (map-append (apply π) g (map (apply θ) q)) ∙ e)
      (omega (arith, a.long, length-map g (apply π))) in
      record { names = π; renaming = r; goal = a.there ∙ ap some (inv parts.0); answer = inv parts.1 }

  -- the answer is an instance of the query
  pub answer_instance : (t : ℕ) (h : Goal) → goal_at P q t ≡ some h → (θ : Subst) × Substitution θ × (answer_at P q t ≡ map (apply θ) q)
  answer_instance t h e =
      let (g, θ, d) = path-derivation P good q atomics t h e in
      let c = derivation-answer d in
      (after c.names θ, after-substitution c.renaming.substitution (derivation-substitution d), c.answer ∙ map-after c.names θ q)

  -- where an instance of the goal follows, so does that of the answer
  pub answer-follows-goal : (t : ℕ) (h : Goal) → goal_at P q t ≡ some h → (τ : Subst) → Substitution τ
      → Every (Follows P) (map (apply τ) h) → Every (Follows P) (map (apply τ) (answer_at P q t))
  answer-follows-goal t h e τ s all =
      let (g, θ, d) = path-derivation P good q atomics t h e in
      let c = derivation-answer d in
      let π = c.names in
      let goal : map (apply τ) h ≡ map (apply (after τ π)) g = ap (map (apply τ)) (some-injective h (map (apply π) g) (inv e ∙ c.goal)) ∙ map-after τ π g in
      subst (Every (Follows P)) (inv (map-after τ π (map (apply θ) q)) ∙ ap (map (apply τ)) (inv c.answer))
      (derivation-follows P d (after τ π) (after-substitution s c.renaming.substitution) (subst (Every (Follows P)) goal all))

  -- where no goal is left, every instance of the answer follows
  pub answer-follows : (t : ℕ) → goal_at P q t ≡ some [] → (τ : Subst) → Substitution τ → Every (Follows P) (map (apply τ) (answer_at P q t))
  answer-follows t e τ s = answer-follows-goal t [] e τ s tt

  -- code 20 of a run with its answer: "solved", and every instance of what is handed back follows from the book
  pub solved-follows : (budget : ℕ) (r : Answered) → Answers P budget q r → r.code ≡ 20 → (τ : Subst) → Substitution τ → Every (Follows P) (map (apply τ) r.answer)
  solved-follows budget r x e τ s =
      subst (λ a. Every (Follows P) (map (apply τ) a)) (inv x.answer)
      (answer-follows r.steps (answers-goal P budget q r x ∙ ap some (solved-empty P budget q r x e)) τ s)
