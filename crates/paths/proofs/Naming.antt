-- Goal and clause have no variable in common; the next goal and answer from what goal and answer stood for.
use Rattle.std.specs.Prelude.{ℕ, ◌<◌, ◌≡◌, refl}
use Rattle.std.proofs.Common.{arith, sym as inv, ap, ◌∙◌, subst, inl, inr}
use mathlib.Core.List.{[], ◌∷◌, ◌++◌, map, head-eq_of_cons-eq, tail-eq_of_cons-eq}
use Rattle.terms.specs.Node.{Expr}
use Rattle.terms.specs.Subst.{InAny, Subst, apply, MostGeneral}
use Rattle.terms.specs.Rename.{rename, Apart}
use Rattle.terms.specs.RenameLaws.{in-any-rename}
use Rattle.terms.specs.Number.{number_all}
use Rattle.search.specs.Next.{Clause, Goal, resolvent, Resolved}
use Rattle.search.proofs.NextLaws.{resolved-one}
use Rattle.applying.specs.Applying.{Onward}
use Rattle.applying.proofs.Onwards.{onward}
use Rattle.paths.specs.Naming as N
use Rattle.paths.specs.Naming.{names_apart}

module _ (F : Expr) (G A : Goal) (f : Expr) (g a : Goal) (is : number_all [] (F ∷ (G ++ A)) ≡ f ∷ (g ++ a)) (base : ℕ) (low : (v : ℕ) → InAny v (F ∷ (G ++ A)) → v < base) (c : Clause) where
  far : Apart (N.α F G A f g a is base low c) (N.past F G A f g a is base low c) (f ∷ (g ++ a)) (c.head ∷ c.body)
  far = record {
    left = λ v w i j. names_apart (F ∷ (G ++ A)) v w (subst (InAny v) (inv is) i) (subst (InAny w) (inv is) j);
    right = λ v w i j e. omega (arith, e);
    shared = λ v w i j e. omega (arith, e, low ((N.α F G A f g a is base low c) v) (subst (InAny ((N.α F G A f g a is base low c) v)) (N.stood F G A f g a is base low c) (in-any-rename (N.α F G A f g a is base low c) v (f ∷ (g ++ a)) i)));
  }

  any-front : (v : ℕ) (l m : Goal) → InAny v l → InAny v (l ++ m)
  any-front v (e ∷ l) m (inl i) = inl i
  any-front v (e ∷ l) m (inr i) = inr (any-front v l m i)
  any-front v [] m x' = elim x' [ ]

  pub near : Apart (N.α F G A f g a is base low c) (N.past F G A f g a is base low c) (f ∷ g) (c.head ∷ c.body)
  near = record {
    left = λ v w i j. far.left v w (any-front v (f ∷ g) a i) (any-front w (f ∷ g) a j);
    right = far.right;
    shared = λ v w i. far.shared v w (any-front v (f ∷ g) a i);
  }

  -- under a most general unifier of F and the clause's head, the body in the place of F and the rest, numbered, are the next goal and answer
  pub held-step : (σ : Subst) → MostGeneral σ F (rename (N.past F G A f g a is base low c) c.head)
      → (h : Goal) × (b : Goal) × Onward f g a c h b × (h ++ b ≡ number_all [] (map (apply σ) (map (rename (N.past F G A f g a is base low c)) c.body ++ (G ++ A))))
  held-step σ general =
      let m = subst (λ e. MostGeneral σ e (rename (N.past F G A f g a is base low c) c.head)) (inv (head-eq_of_cons-eq (N.stood F G A f g a is base low c))) general in
      let o = onward (N.α F G A f g a is base low c) (N.past F G A f g a is base low c) f g a c near far σ m in
      let mine : Resolved f (g ++ a) c (number_all [] (resolvent (N.α F G A f g a is base low c) (N.past F G A f g a is base low c) σ c (g ++ a))) = record { goal_names = (N.α F G A f g a is base low c); clause_names = (N.past F G A f g a is base low c); apart = far; unifier = σ; general = m; result = refl } in
      (_, _, o, resolved-one f (g ++ a) c _ _ o.whole mine ∙ ap (λ l. number_all [] (map (apply σ) (map (rename (N.past F G A f g a is base low c)) c.body ++ l))) (tail-eq_of_cons-eq (N.stood F G A f g a is base low c)))
