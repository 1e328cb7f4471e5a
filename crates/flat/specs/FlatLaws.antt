-- The path of a flat query by a flat book stays flat, and keeps the symbols of the two.
use Rattle.std.specs.Prelude.{ℕ, zero, suc, ◌≡◌, refl, List, [], ◌∷◌, ◌++◌, map}
use Rattle.std.proofs.Common.{add-zero, sym as inv, ◌∙◌, subst}
use Rattle.std.proofs.Math.Option.{Option, none, some, some-injective, none-ne-some}
use Rattle.terms.specs.Node.{Symbol, predicate, var, sym, Expr}
use Rattle.terms.specs.Row.{Row, row_sym}
use Rattle.terms.specs.RowLaws.{every_append, every_map}
use Rattle.terms.specs.Subst.{Subst, Proper, apply}
use Rattle.terms.specs.SubstLaws.{apply-row}
use Rattle.terms.specs.Substitution.{Symbols}
use Rattle.terms.specs.Rename.{rename}
use Rattle.terms.specs.RenameLaws.{rename-row}
use Rattle.terms.specs.Number.{number_all}
use Rattle.terms.proofs.NumberLaws.{every-number}
use Rattle.terms.specs.Unify.{unify}
use Rattle.terms.proofs.UnifyLaws.{unify-sound}
use Rattle.terms.proofs.FoundLaws.{MadeOf, heads-found}
use Rattle.loops.specs.Path.{path-zero, path-back}
use Rattle.search.specs.Next.{Book, Goal}
use Rattle.search.specs.Step.{even, odd, Choice, later, meet, choice, move, goal_in, next_goal}
use Rattle.search.specs.Run.{goal_at}
use Rattle.flat.specs.Flat.{ConstantOf, Flat, flat, FlatGoal, IsFlatBook}

module _ (Q : Symbol → Type 0) where
  symbols-rename : (ρ : ℕ → ℕ) (e : Expr) → Symbols Q e → Symbols Q (rename ρ e)
  symbols-rename ρ [] p = tt
  symbols-rename ρ (var v ∷ e) p = symbols-rename ρ e p
  symbols-rename ρ (sym s ∷ e) p = (p.0, symbols-rename ρ e p.1)

  symbols-append : (a b : Expr) → Symbols Q a → Symbols Q b → Symbols Q (a ++ b)
  symbols-append [] b p q = q
  symbols-append (var v ∷ a) b p q = symbols-append a b p q
  symbols-append (sym s ∷ a) b p q = (p.0, symbols-append a b p.1 q)

  symbols-apply : (σ : Subst) → ((v : ℕ) → Symbols Q (σ v)) → (e : Expr) → Symbols Q e → Symbols Q (apply σ e)
  symbols-apply σ all [] p = tt
  symbols-apply σ all (var v ∷ e) p = symbols-append (σ v) (apply σ e) (all v) (symbols-apply σ all e p)
  symbols-apply σ all (sym s ∷ e) p = (p.0, symbols-apply σ all e p.1)

module _ (ps : List Symbol) (cs : List ℕ) where
  flat-rename : (ρ : ℕ → ℕ) (f : Expr) → Flat ps cs f → Flat ps cs (rename ρ f)
  flat-rename ρ f (flat {e = e} l r s) = flat l (rename-row ρ r) (symbols-rename (ConstantOf cs) ρ e s)

  flat-apply : (σ : Subst) → Proper σ → ((v : ℕ) → Symbols (ConstantOf cs) (σ v)) → (f : Expr) → Flat ps cs f → Flat ps cs (apply σ f)
  flat-apply σ proper all f (flat {e = e} l r s) = flat l (apply-row σ proper r) (symbols-apply (ConstantOf cs) σ all e s)

  -- the unifier of two flat formulas is of their constants
  meet-flat : (f h : Expr) → Flat ps cs f → Flat ps cs h → (σ : Subst) → unify (rename even f) (rename odd h) ≡ some σ → MadeOf (ConstantOf cs) σ
  meet-flat f h (flat {p = p} {a = a} {e = x} l r s) (flat {p = p'} {a = a'} {e = y} l' r' s') σ e =
      heads-found (ConstantOf cs) (rename even x) (rename odd y) (symbols-rename (ConstantOf cs) even x s) (symbols-rename (ConstantOf cs) odd y s') (predicate p a) (predicate p' a') σ e

  flat-row : {f : Expr} → Flat ps cs f → Row 1 f
  flat-row (flat {p = p} {a = a} {e = e} l r s) = row_sym {n = 0} {s = predicate p a} {e = e} (rw add-zero r)

  -- a choice is of the book
  record Chosen (f : Expr) (x : Choice) : Type 0 where
    clause : FlatGoal ps cs (x.clause.head ∷ x.clause.body)
    meets : meet f x.clause ≡ some x.unifier

  chosen : (P : Book) (f : Expr) → IsFlatBook ps cs P → (x : Choice) → choice P f ≡ some x → Chosen f x
  chosen [] f p x e = absurd (none-ne-some x e)
  chosen (c ∷ P) f p x e = go (meet f c) refl e (chosen P f p.1)
    where
      further : (o : Option Choice) → choice P f ≡ o → later o ≡ some x → ((y : Choice) → choice P f ≡ some y → Chosen f y) → Chosen f x
      further none d e rest = absurd (none-ne-some x e)
      further (some y) d e rest = let z = rest y d in subst (Chosen f) (some-injective _ x e) (record { clause = z.clause; meets = z.meets })

      go : (m : Option Subst) → meet f c ≡ m → elim m as (λ _. Option Choice) [ none ↦ later (choice P f) | some σ ↦ some (record { number = 0; clause = c; unifier = σ }) ] ≡ some x
          → ((y : Choice) → choice P f ≡ some y → Chosen f y) → Chosen f x
      go none d e rest = further (choice P f) refl e rest
      go (some σ) d e rest = subst (Chosen f) (some-injective _ x e) (record { clause = p.0; meets = d })

  -- one step stays flat
  pub next-flat : (P : Book) → IsFlatBook ps cs P → (g h : Goal) → FlatGoal ps cs g → next_goal P g ≡ some h → FlatGoal ps cs h
  next-flat P book [] h p e = absurd (none-ne-some h e)
  next-flat P book (f ∷ g) h p e = go (choice P f) refl e
    where
      go : (o : Option Choice) → choice P f ≡ o → goal_in (move o g) ≡ some h → FlatGoal ps cs h
      go none d e = absurd (none-ne-some h e)
      go (some x) d e =
          let z = chosen P f book x d in
          let c = x.clause in
          let m = meet-flat f c.head p.0 z.clause.0 x.unifier z.meets in
          let u = unify-sound (rename-row even (flat-row p.0)) (rename-row odd (flat-row z.clause.0)) z.meets in
          let parts = every_append (Flat ps cs) (map (rename odd) c.body) (map (rename even) g) (every_map (Flat ps cs) (rename odd) (flat-rename odd) c.body z.clause.1) (every_map (Flat ps cs) (rename even) (flat-rename even) g p.1) in
          let apart = map (rename odd) c.body ++ map (rename even) g in
          let all = every_map (Flat ps cs) (apply x.unifier) (flat-apply x.unifier u.unifies.0 m.symbols) apart parts in
          subst (FlatGoal ps cs) (some-injective (number_all [] (map (apply x.unifier) apart)) h e) (every-number (Flat ps cs) flat-rename (map (apply x.unifier) apart) all)

  -- and so does the path
  pub path-flat : (P : Book) → IsFlatBook ps cs P → (q : Goal) → FlatGoal ps cs q → (t : ℕ) (g : Goal) → goal_at P q t ≡ some g → FlatGoal ps cs g
  path-flat P book q p zero g e = subst (FlatGoal ps cs) (some-injective q g (inv (path-zero (next_goal P) q) ∙ e)) p
  path-flat P book q p (suc t) g e = let (b, there, on) = path-back (next_goal P) t q g e in next-flat P book b g (path-flat P book q p t b there) on
