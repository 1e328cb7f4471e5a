-- Document 000's resolution step is the relation Next, so the path is its derivation.
use Rattle.std.specs.Prelude.{ℕ, zero, suc, ◌+◌, ◌<◌, max, ◌≡◌, refl, ◌↔◌, List, [], ◌∷◌, ◌++◌, map}
use Rattle.std.proofs.Common.{arith, sym as inv, ap, ap₂, ◌∙◌, subst, inl, inr, map-id}
use Rattle.std.proofs.Math.Option.{some}
use Rattle.terms.specs.Node.{var, sym, Expr}
use Rattle.terms.specs.Row.{Formulas}
use Rattle.terms.specs.Subst.{In, InAny, Subst, apply, Unifies}
use Rattle.terms.specs.Substitution.{Function, Symbols, Term, Atomic, atomic, Mgu}
use Rattle.terms.specs.Rename.{rename, Apart}
use Rattle.terms.specs.Renaming.{Renaming, Permutation}
use Rattle.terms.specs.Number.{number_all}
use Rattle.terms.specs.RenameLaws.{in-any-rename, rename-row, rename_idle, names, rename-apply}
use Rattle.terms.specs.SubstLaws.{in-apply, apply-row, apply-on, map_same}
use Rattle.terms.proofs.FoundLaws.{above}
use Rattle.terms.proofs.MguLaws.{atomic-row, Narrow, formulas-narrow, mgu_iff, unifies-mgu, unifier_iff, general-terms}
use Rattle.terms.specs.PermutationLaws.{permutation_injective, permuted}
use Rattle.terms.proofs.RenamingLaws.{permutation-renaming, renaming-permutation}
use Rattle.search.specs.Next.{Clause, Book, Goal, Clauses, Meets, First, Resolved, Next}
use Rattle.search.specs.Step.{next}
use Rattle.search.specs.Run.{goal_at}
use Rattle.search.proofs.NextLaws.{carried, resolved-one, resolved-every}
use Rattle.search.proofs.NextTheorem.{next_iff}
use Rattle.search.proofs.PathLaws.{path-holds, step-goal, path-next}
use Rattle.search.specs.Resolution.{Atomics, AtomicClauses, Standard, UnifiesWith, FirstUnifying, Resolvent, Derived}

-- Atomic formulas, renamed, and under a substitution by terms.

symbols-rename : (ρ : ℕ → ℕ) (e : Expr) → Symbols Function e → Symbols Function (rename ρ e)
symbols-rename ρ [] p = tt
symbols-rename ρ (var v ∷ e) p = symbols-rename ρ e p
symbols-rename ρ (sym s ∷ e) p = (p.0, symbols-rename ρ e p.1)

pub atomic-rename : (ρ : ℕ → ℕ) (e : Expr) → Atomic e → Atomic (rename ρ e)
atomic-rename ρ e (atomic {e = d} r p) = atomic (rename-row ρ r) (symbols-rename ρ d p)

symbols-append : (a b : Expr) → Symbols Function a → Symbols Function b → Symbols Function (a ++ b)
symbols-append [] b p q = q
symbols-append (var v ∷ a) b p q = symbols-append a b p q
symbols-append (sym s ∷ a) b p q = (p.0, symbols-append a b p.1 q)

module _ (σ : Subst) (terms : (v : ℕ) → Term (σ v)) where
  pub symbols-apply : (e : Expr) → Symbols Function e → Symbols Function (apply σ e)
  symbols-apply [] p = tt
  symbols-apply (var v ∷ e) p = symbols-append (σ v) (apply σ e) (terms v).1 (symbols-apply e p)
  symbols-apply (sym s ∷ e) p = (p.0, symbols-apply e p.1)

  atomic-apply : (e : Expr) → Atomic e → Atomic (apply σ e)
  atomic-apply e (atomic {e = d} r p) = atomic (apply-row σ (λ v. (terms v).0) r) (symbols-apply d p)

-- Document 000's renamings as those of variables.

-- a renaming does what a permutation of variables does
permuting : (σ : Subst) → Renaming σ → (ρ : ℕ → ℕ) × Permutation ρ × ((e : Expr) → apply σ e ≡ rename ρ e)
permuting σ r = let p = renaming-permutation σ r in (p.0, p.1, λ e. apply-on σ (names p.0) e (λ v i. p.2 v) ∙ inv (rename-apply p.0 e))

-- the variables of what a permutation makes of h
in-any-named : (ρ : ℕ → ℕ) (v : ℕ) (h : List Expr) → InAny v (map (apply (names ρ)) h) → (w : ℕ) × InAny w h × (v ≡ ρ w)
in-any-named ρ v (e ∷ h) (inl i) = let j = in-apply v (names ρ) e i in (j.0, inl j.1, elim j.2 [ inl p ↦ p | inr p ↦ absurd p ])
in-any-named ρ v (e ∷ h) (inr i) = let j = in-any-named ρ v h i in (j.0, inr j.1, j.2)
in-any-named ρ v [] x' = elim x' [ ]

-- names that document 000 allows are apart from the goal's own
standard-apart : (σ : Subst) (g h : List Expr) (s : Standard σ g h) → Apart (λ v. v) (permuting σ s.renaming).0 g h
standard-apart σ g h s =
    let p = permuting σ s.renaming in
    record {
      left = λ v w i j e. e;
      right = λ v w i j e. permutation_injective p.0 p.1 v w e;
      shared = λ v w i j e. s.apart v i (subst (InAny v) (inv (map_same p.2 h)) (subst (λ u. InAny u (map (rename p.0) h)) (inv e) (in-any-rename p.0 w h j)));
    }

-- And there are such names: as far on as the goal's variables reach.

abbrev above_all : List Expr → ℕ
above_all [] = 0
above_all (f ∷ g) = max (above f) (above_all g)

in-above : (v : ℕ) (e : Expr) → In v e → v < above e
in-above v (var w ∷ e) (inl p) = omega arith
in-above v (var w ∷ e) (inr i) = omega (arith, in-above v e i)
in-above v (sym s ∷ e) i = in-above v e i
in-above v [] i = elim i [ ]

in-above-all : (v : ℕ) (g : List Expr) → InAny v g → v < above_all g
in-above-all v (f ∷ g) (inl i) = omega (arith, in-above v f i)
in-above-all v (f ∷ g) (inr i) = omega (arith, in-above-all v g i)
in-above-all v [] x' = elim x' [ ]

standard-names : (g h : List Expr) → (σ : Subst) × Standard σ g h
standard-names g h =
    let p = permuted (λ v. above_all g + v) h (λ v w i j e. omega arith) in (
      names p.0,
      record {
        renaming = permutation-renaming p.0 p.1;
        apart = λ v i j. let k = in-any-named p.0 v h j in omega (arith, in-above-all v g i, k.2, p.2 k.0 k.1);
      },
    )

-- the goal keeps its names
rename-itself : (e : Expr) → rename (λ v. v) e ≡ e
rename-itself e = rename_idle (λ v. v) e (λ v i. refl)

-- A head unifies in document 000's words just when it does in document 01's.
module _ (f : Expr) (af : Atomic f) (c : Clause) (ac : Atomic c.head) where
  narrow-heads : (σ : Subst) → Renaming σ → Narrow f (apply σ c.head)
  narrow-heads σ r = formulas-narrow af (atomic-apply σ r.substitution.terms c.head ac)

  -- a unifier under whatever names gives one under names that keep the goal's
  unifies-here : (g h : List Expr) (σ : Subst) → Standard σ (f ∷ g) (c.head ∷ h) → (α β : ℕ → ℕ) (θ : Subst) → Unifies θ (rename α f) (rename β c.head)
      → (τ : Subst) × Unifies τ f (apply σ c.head)
  unifies-here g h σ s α β θ u =
      let p = permuting σ s.renaming in
      let j = carried (λ v. v) p.0 α β f c.head g h (standard-apart σ (f ∷ g) (c.head ∷ h) s) θ u in
      let τ = j.0.joint in
      (τ, (j.1.0, ap (apply τ) (inv (rename-itself f)) ∙ j.1.1 ∙ ap (apply τ) (inv (p.2 c.head))))

  pub meets_iff : UnifiesWith f c ↔ Meets f c
  meets_iff = (to, from)
    where
      to : UnifiesWith f c → Meets f c
      to u =
          let p = permuting u.names u.standard.renaming in
          let θ = u.substitution in
          record {
            goal_names = λ v. v;
            clause_names = p.0;
            apart = standard-apart u.names (f ∷ []) (c.head ∷ []) u.standard;
            unifier = θ;
            unifies = (λ v. (u.unifier.substitution.terms v).0, ap (apply θ) (rename-itself f) ∙ u.unifier.equal ∙ ap (apply θ) (p.2 c.head));
          }

      from : Meets f c → UnifiesWith f c
      from m =
          let n = standard-names (f ∷ []) (c.head ∷ []) in
          let s = (unifier_iff (narrow-heads n.0 n.1.renaming)).1 (unifies-here [] [] n.0 n.1 m.goal_names m.clause_names m.unifier m.unifies) in
          record { names = n.0; standard = n.1; substitution = s.0; unifier = s.1 }

  -- and the resolvents are the same
  resolvent-resolved : (g h : Goal) → Resolvent f g c h → Resolved f g c h
  resolvent-resolved g h r = record {
    goal_names = λ v. v;
    clause_names = p.0;
    apart = standard-apart r.names (f ∷ g) (c.head ∷ c.body) r.standard;
    unifier = r.mgu;
    general = rw (rename-itself f, ← p.2 c.head) ((mgu_iff (narrow-heads r.names r.standard.renaming) r.mgu).0 r.general).1;
    result = r.result ∙ ap₂ (λ x y. number_all [] (map (apply r.mgu) (x ++ y))) (map_same p.2 c.body) (inv (map_same rename-itself g ∙ map-id g));
  }
    where
      p : (ρ : ℕ → ℕ) × Permutation ρ × ((e : Expr) → apply r.names e ≡ rename ρ e)
      p = permuting r.names r.standard.renaming

  resolved-resolvent : (g h : Goal) → Resolved f g c h → Resolvent f g c h
  resolved-resolvent g h r = subst (Resolvent f g c) (resolved-one f g c here h (resolvent-resolved g here new) r) new
    where
      n : (σ : Subst) × Standard σ (f ∷ g) (c.head ∷ c.body)
      n = standard-names (f ∷ g) (c.head ∷ c.body)

      u : (θ : Subst) × Unifies θ f (apply n.0 c.head)
      u = unifies-here g c.body n.0 n.1 r.goal_names r.clause_names r.unifier r.general.unifies

      m : (θ : Subst) × Mgu θ f (apply n.0 c.head)
      m = unifies-mgu (narrow-heads n.0 n.1.renaming) u.0 u.1

      here : Goal
      here = number_all [] (map (apply m.0) (map (apply n.0) c.body ++ g))

      new : Resolvent f g c here
      new = record { names = n.0; standard = n.1; mgu = m.0; general = m.1; result = refl }

-- the first clause
first_iff : (f : Expr) → Atomic f → (P : Book) → AtomicClauses P → (k : ℕ) (c : Clause) → FirstUnifying f P k c ↔ First f P k c
first_iff f af [] good k c = (λ p. p, λ p. p)
first_iff f af (d ∷ P) good zero c = (
  λ p. (p.0, (to p.0).0 p.1),
  λ p. (p.0, (to p.0).1 p.1),
)
  where
    to : d ≡ c → UnifiesWith f c ↔ Meets f c
    to e = meets_iff f af c (subst (λ x. Atomic x.head) e good.0.0)
first_iff f af (d ∷ P) good (suc k) c =
    let m = meets_iff f af d good.0.0 in
    let r = first_iff f af P good.1 k c in
    (λ p. (λ x. p.0 (m.1 x), r.0 p.1), λ p. (λ x. p.0 (m.0 x), r.1 p.1))

first-atomic : (f : Expr) (P : Book) → AtomicClauses P → (k : ℕ) (c : Clause) → First f P k c → Atomics (c.head ∷ c.body)
first-atomic f (d ∷ P) good zero c p = subst (λ x. Atomics (x.head ∷ x.body)) p.0 good.0
first-atomic f (d ∷ P) good (suc k) c p = first-atomic f P good.1 k c p.1
first-atomic f [] good k c p = elim p [ ]

-- of atomic formulas, document 000's resolution by the first clause is the next goal
pub derived_iff : (P : Book) → AtomicClauses P → (g : Goal) → Atomics g → (k : ℕ) (h : Goal) → Derived P g k h ↔ Next P g k h
derived_iff P good [] goal k h = (λ d. d, λ d. d)
derived_iff P good (f ∷ g) goal k h = (
  λ d. let first = (first_iff f goal.0 P good k d.0).0 d.1 in (d.0, first, resolvent-resolved f goal.0 d.0 (head d.0 first) g h d.2),
  λ d. (d.0, (first_iff f goal.0 P good k d.0).1 d.1, resolved-resolvent f goal.0 d.0 (head d.0 d.1) g h d.2),
)
  where
    head : (c : Clause) → First f P k c → Atomic c.head
    head c p = (first-atomic f P good k c p).0

-- The next goal of atomic formulas is of atomic formulas.
pub next-atomic : (P : Book) → AtomicClauses P → (g : Goal) → Atomics g → (k : ℕ) (h : Goal) → Next P g k h → Atomics h
next-atomic P good (f ∷ g) goal k h (c, first, t) =
    let clause = first-atomic f P good k c first in
    let narrow = formulas-narrow (atomic-rename t.goal_names f goal.0) (atomic-rename t.clause_names c.head clause.0) in
    resolved-every Atomic atomic-rename f g c h clause.1 goal.1 t (atomic-apply t.unifier (general-terms narrow t.unifier t.general))
next-atomic P good [] goal k h x'' = elim x'' [ ]

-- So the path is document 000's derivation: at each step by the leftmost formula and the first clause that can be taken.

pub atomics-formulas : (g : Goal) → Atomics g → Formulas g
atomics-formulas [] p = tt
atomics-formulas (f ∷ g) p = (atomic-row p.0, atomics-formulas g p.1)

pub atomic-clauses : (P : Book) → AtomicClauses P → Clauses P
atomic-clauses [] p = tt
atomic-clauses (c ∷ P) p = (atomics-formulas (c.head ∷ c.body) p.0, atomic-clauses P p.1)

module _ (P : Book) (good : AtomicClauses P) (q : Goal) (goal : Atomics q) where
  pub path-atomic : (t : ℕ) (g : Goal) → goal_at P q t ≡ some g → Atomics g
  path-atomic =
      path-holds Atomics P
      (λ g h p e. let s = step-goal (next P g) h e in next-atomic P good g p s.0 h ((next_iff P (atomic-clauses P good) g (atomics-formulas g p) s.0 h).1 s.1))
      q goal

  pub path-derived : (t : ℕ) (g h : Goal) → goal_at P q t ≡ some g → (goal_at P q (suc t) ≡ some h) ↔ ((k : ℕ) × Derived P g k h)
  path-derived t g h e = (λ p. let n = on.0 p in (n.0, (derived n.0).1 n.1), λ d. on.1 (d.0, (derived d.0).0 d.1))
    where
      on : (goal_at P q (suc t) ≡ some h) ↔ ((k : ℕ) × Next P g k h)
      on = path-next P (atomic-clauses P good) q (atomics-formulas q goal) t g h e

      derived : (k : ℕ) → Derived P g k h ↔ Next P g k h
      derived k = derived_iff P good g (path-atomic t g e) k h
