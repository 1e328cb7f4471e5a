-- Document 000's derivations, with nothing numbered anew, go as the path does: the goal and the query under the composed unifiers are, up to one renaming of both, the path's goal and the
-- answer. FollowsLaws has what this says of the answer.
use Rattle.std.specs.Prelude.{ℕ, zero, suc, max, ◌≡◌, refl, [], ◌∷◌, ◌++◌, map, length}
use Rattle.std.proofs.Common.{arith, sym as inv, ap, ◌∙◌, subst, map-id, append_assoc, append-nil, length-append}
use Rattle.std.proofs.Math.Option.{some, none-ne-some}
use Rattle.std.proofs.lemmas.Simd.{map-map}
use Rattle.std.proofs.lemmas.List.{map-append, length-map}
use Rattle.terms.specs.Node.{Expr}
use Rattle.terms.specs.Row.{row_end, row_var}
use Rattle.terms.specs.RowLaws.{every_append, every_map}
use Rattle.terms.specs.Subst.{Subst, apply, after, itself}
use Rattle.terms.specs.SubstLaws.{apply-row, apply-after, apply-itself, map_same}
use Rattle.terms.specs.Substitution.{Atomic, Substitution}
use Rattle.terms.specs.Rename.{rename, Variants}
use Rattle.terms.specs.Number.{number_all}
use Rattle.terms.proofs.NumberLaws.{number-all-length}
use Rattle.terms.proofs.VariantLaws.{variants_iff, variants_flip, number-all_idempotent}
use Rattle.loops.specs.Path.{path-zero, path-on, path-back}
use Rattle.search.specs.Next.{Clause, Book, Goal, Next}
use Rattle.search.specs.Step.{to, next, next_goal, goal_in}
use Rattle.search.proofs.NextTheorem.{next_iff}
use Rattle.search.proofs.NameLaws.{next-variants}
use Rattle.search.specs.Run.{goal_at}
use Rattle.search.proofs.PathLaws.{step-goal}
use Rattle.search.specs.Resolution.{Atomics, AtomicClauses, FirstUnifying, Resolvent}
use Rattle.search.proofs.ResolutionLaws.{atomic-rename, symbols-apply, derived_iff, atomics-formulas, atomic-clauses, path-atomic}
use Rattle.search.specs.Answer.{next_answer, answer_at}
use Rattle.search.proofs.AnswerLaws.{next-answer-whole, answer-front, answer-zero, answer-whole}
use Rattle.search.specs.Derivation.{Derivation, begins, goes_on}

-- Substitutions one after another.

pub map-after : (τ σ : Subst) (g : Goal) → map (apply τ) (map (apply σ) g) ≡ map (apply (after τ σ)) g
map-after τ σ g = map-map (apply τ) (apply σ) g ∙ map_same (apply-after τ σ) g

pub map-itself : (g : Goal) → map (apply itself) g ≡ g
map-itself g = map_same apply-itself g ∙ map-id g

pub itself-substitution : Substitution itself
itself-substitution = record { terms = λ v. (row_var row_end, tt); bound = 0; finite = λ v l. refl }

pub after-substitution : {τ σ : Subst} → Substitution τ → Substitution σ → Substitution (after τ σ)
after-substitution {τ} {σ} t s = record {
  terms = λ v. (apply-row τ (λ w. (t.terms w).0) (s.terms v).0, symbols-apply τ t.terms (σ v) (s.terms v).1);
  bound = max t.bound s.bound;
  finite = λ v l. ap (apply τ) (s.finite v (omega arith)) ∙ append-nil (τ v) ∙ t.finite v (omega arith);
}

pub derivation-substitution : {P : Book} {q : Goal} {t : ℕ} {g : Goal} {θ : Subst} → Derivation P q t g θ → Substitution θ
derivation-substitution begins = itself-substitution
derivation-substitution (goes_on k c names mgu d first apart general) = after-substitution general.unifier.substitution (derivation-substitution d)

-- what becomes of the goal, and of the query behind it
resolved-behind : (names mgu θ : Subst) (c : Clause) (g q : Goal)
    → map (apply mgu) (map (apply names) c.body ++ (g ++ map (apply θ) q)) ≡ map (apply mgu) (map (apply names) c.body ++ g) ++ map (apply (after mgu θ)) q
resolved-behind names mgu θ c g q =
    let front = map (apply names) c.body ++ g in
    ap (map (apply mgu)) (inv (append_assoc (map (apply names) c.body) g (map (apply θ) q))) ∙ map-append (apply mgu) front (map (apply θ) q)
    ∙ ap (λ r. map (apply mgu) front ++ r) (map-after mgu θ q)

-- For a book and a query of atomic formulas.
module _ (P : Book) (good : AtomicClauses P) (q : Goal) (atomics : Atomics q) where
  -- the path's goal at step t, with the answer behind it, is a renamed copy of the goal g with the query under θ behind it
  pub record Alike (t : ℕ) (g : Goal) (θ : Subst) : Type 0 where
    pub goal : Goal
    pub there : goal_at P q t ≡ some goal
    pub long : length goal ≡ length g
    pub same : Variants (goal ++ answer_at P q t) (g ++ map (apply θ) q)

  both-atomic : (t : ℕ) (h : Goal) → goal_at P q t ≡ some h → Atomics (h ++ answer_at P q t)
  both-atomic t h e = path-atomic P good (q ++ q) (every_append Atomic q q atomics atomics) t (h ++ answer_at P q t) (answer-whole P q t h e).0

  alike-atomic : {t : ℕ} {g : Goal} {θ : Subst} → Alike t g θ → Atomics (g ++ map (apply θ) q)
  alike-atomic {t} a =
      subst Atomics a.same.there (every_map Atomic (rename a.same.forth) (atomic-rename a.same.forth) (a.goal ++ answer_at P q t) (both-atomic t a.goal a.there))

  -- by one step of the one the other goes too
  alike_next : (t : ℕ) (f : Expr) (g : Goal) (θ : Subst) → Alike t (f ∷ g) θ → (k : ℕ) (c : Clause) → FirstUnifying f P k c → (w : Goal) (r : Resolvent f (g ++ map (apply θ) q) c w)
      → Alike (suc t) (map (apply r.mgu) (map (apply r.names) c.body ++ g)) (after r.mgu θ)
  alike_next t f g θ a k c first w r = record {
    goal = i;
    there = on;
    long = omega (
      arith,
      ap length both,
      number-all-length [] (g' ++ rest),
      length-append i (answer_at P q (suc t)),
      length-append g' rest,
      (answer-whole P q (suc t) i on).1,
      length-map q (apply (after r.mgu θ)),
    );
    same = (variants_iff (i ++ answer_at P q (suc t)) (g' ++ rest)).0 (ap (number_all []) both ∙ number-all_idempotent (g' ++ rest));
  }
    where
      h : Goal
      h = a.goal

      b : Goal
      b = answer_at P q t

      g' : Goal
      g' = map (apply r.mgu) (map (apply r.names) c.body ++ g)

      rest : Goal
      rest = map (apply (after r.mgu θ)) q

      next_both : next_goal P (h ++ b) ≡ some w
      next_both =
          let n = next-variants P (h ++ b) (f ∷ (g ++ map (apply θ) q)) a.same k w ((derived_iff P good (f ∷ (g ++ map (apply θ) q)) (alike-atomic a) k w).0 (c, first, r)) in
          ap goal_in ((next_iff P (atomic-clauses P good) (h ++ b) (atomics-formulas (h ++ b) (both-atomic t h a.there)) k w).0 n)

      parts : (i : Goal) × (next_goal P h ≡ some i) × (w ≡ i ++ answer_at P q (suc t))
      parts = answer-front P q t h w a.there (omega (arith, a.long)) next_both

      i : Goal
      i = parts.0

      on : goal_at P q (suc t) ≡ some i
      on = path-on (next_goal P) t q h a.there ∙ parts.1

      both : i ++ answer_at P q (suc t) ≡ number_all [] (g' ++ rest)
      both = inv parts.2 ∙ r.result ∙ ap (number_all []) (resolved-behind r.names r.mgu θ c g q)

  -- the goal of a derivation and the query under its substitution are the path's goal and the answer, up to one renaming of both
  pub derivation-path : {t : ℕ} {g : Goal} {θ : Subst} → Derivation P q t g θ → Alike t g θ
  derivation-path begins = record {
    goal = q;
    there = path-zero (next_goal P) q;
    long = refl;
    same = (variants_iff (q ++ answer_at P q 0) (q ++ map (apply itself) q)).0 (ap (λ a. number_all [] (q ++ a)) (answer-zero P q ∙ inv (map-itself q)));
  }
  derivation-path (goes_on {t = t} {f = f} {g = g} {θ = θ} k c names mgu d first apart general) =
      alike_next t f g θ (derivation-path d) k c first _ (record { names = names; standard = apart; mgu = mgu; general = general; result = refl })

  -- and as far as the path goes there is such a derivation
  empty-stops : (x h : Goal) → length x ≡ 0 → next_goal P x ≡ some h → ⊥
  empty-stops [] h l n = none-ne-some h n
  empty-stops (f ∷ x) h l n = omega arith

  derive_on : (t : ℕ) (g h : Goal) (θ : Subst) → Derivation P q t g θ → goal_at P q (suc t) ≡ some h → (g' : Goal) × (θ' : Subst) × Derivation P q (suc t) g' θ'
  derive_on t g h θ d e = go g d a.long (next-variants P (g ++ map (apply θ) q) (a.goal ++ b) (variants_flip a.same) s.0 w there)
    where
      a : Alike t g θ
      a = derivation-path d

      b : Goal
      b = answer_at P q t

      w : Goal
      w = h ++ next_answer P a.goal b

      n : next_goal P a.goal ≡ some h
      n = inv (path-on (next_goal P) t q a.goal a.there) ∙ e

      s : (k : ℕ) × (next P (a.goal ++ b) ≡ to k w)
      s = step-goal (next P (a.goal ++ b)) w (next-answer-whole P a.goal h b n).0

      there : Next P (a.goal ++ b) s.0 w
      there = (next_iff P (atomic-clauses P good) (a.goal ++ b) (atomics-formulas (a.goal ++ b) (both-atomic t a.goal a.there)) s.0 w).1 s.1

      go : (x : Goal) → Derivation P q t x θ → length a.goal ≡ length x → Next P (x ++ map (apply θ) q) s.0 w → (g' : Goal) × (θ' : Subst) × Derivation P q (suc t) g' θ'
      go [] d l m = absurd (empty-stops a.goal h l n)
      go (f ∷ x) d l m =
          let (c, first, r) = (derived_iff P good (f ∷ (x ++ map (apply θ) q)) (alike-atomic (derivation-path d)) s.0 w).1 m in
          (_, _, goes_on s.0 c r.names r.mgu d first r.standard r.general)

  pub path-derivation : (t : ℕ) (h : Goal) → goal_at P q t ≡ some h → (g : Goal) × (θ : Subst) × Derivation P q t g θ
  path-derivation zero h e = (q, itself, begins)
  path-derivation (suc t) h e =
      let b = path-back (next_goal P) t q h e in
      let d = path-derivation t b.0 b.1 in
      derive_on t d.0 h d.1 d.2 e
