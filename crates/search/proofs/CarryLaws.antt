-- The answer by the relation is the answer that is computed, so it is one, whatever names and most general unifiers are taken.
use Rattle.std.specs.Prelude.{ℕ, zero, suc, ◌≡◌, refl, ◌↔◌, List, [], ◌∷◌, ◌++◌, map, length}
use Rattle.std.proofs.Common.{arith, sym as inv, ap, ◌∙◌, subst, inl, inr, length-append}
use Rattle.std.proofs.Math.Option.{some, some-injective, none-ne-some}
use Rattle.std.proofs.lemmas.List.{length-map}
use Rattle.terms.specs.Node.{Expr}
use Rattle.terms.specs.Row.{Formulas}
use Rattle.terms.specs.Subst.{InAny, apply}
use Rattle.terms.specs.Rename.{rename}
use Rattle.terms.specs.Number.{seen_all, number_all}
use Rattle.terms.proofs.NumberLaws.{number-all-append, number-all-length}
use Rattle.loops.specs.Path.{path-zero, path-on, path-back}
use Rattle.search.specs.Next.{Clause, Book, Goal, Clauses, First, resolvent, Resolved}
use Rattle.search.specs.Step.{next, next_goal, goal_in}
use Rattle.search.specs.StepLaws.{resolvent-more}
use Rattle.search.proofs.NextTheorem.{next_iff}
use Rattle.search.specs.Run.{goal_at}
use Rattle.search.proofs.PathLaws.{step-goal, path-formulas}
use Rattle.search.specs.Answer.{Carried, Carries, none_yet, one_more, next_answer, answer_at}
use Rattle.search.proofs.AnswerGoals.{split-alike, both-formulas}
use Rattle.search.proofs.AnswerLaws.{next-answer-whole, answer-zero, answer-next}

in-beginning : (v : ℕ) (g a : List Expr) → InAny v g → InAny v (g ++ a)
in-beginning v (f ∷ g) a (inl i) = inl i
in-beginning v (f ∷ g) a (inr i) = inr (in-beginning v g a i)
in-beginning v [] a x' = elim x' [ ]

-- the beginning of what is numbered together is numbered by itself
number-front : (h b front rest : Goal) → h ++ b ≡ number_all [] (front ++ rest) → length b ≡ length rest → h ≡ number_all [] front
number-front h b front rest e l =
    let n = number_all [] front in
    let m = number_all (seen_all [] front) rest in
    let both : h ++ b ≡ n ++ m = e ∙ number-all-append [] front rest in
    let long : length h ≡ length n = omega (arith, length-append h b, length-append n m, ap length both, number-all-length (seen_all [] front) rest) in
    (split-alike h b n m both long).0

-- One step.
module _ (f : Expr) (g a : Goal) (c : Clause) (h b : Goal) where
  -- the goal is resolved as it is by itself
  pub carried-goal : Carried f g a c h b → Resolved f g c h
  carried-goal x = record {
    goal_names = x.goal_names;
    clause_names = x.clause_names;
    apart = record {
      left = λ v w i j p. x.apart.left v w (more v i) (more w j) p;
      right = x.apart.right;
      shared = λ v w i j p. x.apart.shared v w (more v i) j p;
    };
    unifier = x.unifier;
    general = x.general;
    result = x.goal;
  }
    where
      more : (v : ℕ) → InAny v (f ∷ g) → InAny v (f ∷ (g ++ a))
      more v i = in-beginning v (f ∷ g) a i

  -- and with the answer behind it as one goal
  carried-both : Carried f g a c h b → Resolved f (g ++ a) c (h ++ b)
  carried-both x = record {
    goal_names = x.goal_names;
    clause_names = x.clause_names;
    apart = x.apart;
    unifier = x.unifier;
    general = x.general;
    result = x.answer ∙ ap (number_all []) (inv (resolvent-more x.goal_names x.clause_names x.unifier c g a));
  }

  resolved-carried : Resolved f (g ++ a) c (h ++ b) → length b ≡ length a → Carried f g a c h b
  resolved-carried x l = record {
    goal_names = x.goal_names;
    clause_names = x.clause_names;
    apart = x.apart;
    unifier = x.unifier;
    general = x.general;
    goal = number-front h b (resolvent x.goal_names x.clause_names x.unifier c g) rest both
        (l ∙ inv (length-map (map (rename x.goal_names) a) (apply x.unifier) ∙ length-map a (rename x.goal_names)));
    answer = both;
  }
    where
      rest : Goal
      rest = map (apply x.unifier) (map (rename x.goal_names) a)

      both : h ++ b ≡ number_all [] (resolvent x.goal_names x.clause_names x.unifier c g ++ rest)
      both = x.result ∙ ap (number_all []) (resolvent-more x.goal_names x.clause_names x.unifier c g a)

-- The two are the same, for a book and a query of formulas.
module _ (P : Book) (good : Clauses P) (q : Goal) (formulas : Formulas q) where
  carries-path : {t : ℕ} {g a : Goal} → Carries P q t g a → (goal_at P q t ≡ some g) × (a ≡ answer_at P q t)
  carries-path none_yet = (path-zero (next_goal P) q, inv (answer-zero P q))
  carries-path (one_more {t = t} {f = f} {g = g} {a = a} k c {h = h} {b = b} x first s) =
      let (here, same) = carries-path x in
      let rows = subst (λ y. Formulas ((f ∷ g) ++ y)) (inv same) (both-formulas P q good formulas t (f ∷ g) here) in
      let one = (next_iff P good (f ∷ g) (path-formulas P good q formulas t (f ∷ g) here) k h).0 (c, first, carried-goal f g a c h b s) in
      let two = (next_iff P good ((f ∷ g) ++ a) rows k (h ++ b)).0 (c, first, carried-both f g a c h b s) in
      let whole = (next-answer-whole P (f ∷ g) h a (ap goal_in one)).0 in (
        path-on (next_goal P) t q (f ∷ g) here ∙ ap goal_in one,
        (split-alike h b h (next_answer P (f ∷ g) a) (some-injective (h ++ b) (h ++ next_answer P (f ∷ g) a) (inv (ap goal_in two) ∙ whole)) refl).1
            ∙ ap (next_answer P (f ∷ g)) same ∙ inv (answer-next P q t (f ∷ g) h here (ap goal_in one)),
      )

  -- a step of the path carries the answer on
  pub carried_on : (t : ℕ) (f : Expr) (g h : Goal) → goal_at P q t ≡ some (f ∷ g) → next_goal P (f ∷ g) ≡ some h
      → (k : ℕ) × (c : Clause) × First f P k c × Carried f g (answer_at P q t) c h (answer_at P q (suc t))
  carried_on t f g h e n =
      let a = answer_at P q t in
      let b = next_answer P (f ∷ g) a in
      let (whole, long) = next-answer-whole P (f ∷ g) h a n in
      let (k, s) = step-goal (next P ((f ∷ g) ++ a)) (h ++ b) whole in
      let (c, first, r) = (next_iff P good ((f ∷ g) ++ a) (both-formulas P q good formulas t (f ∷ g) e) k (h ++ b)).1 s in
      (k, c, first, subst (Carried f g a c h) (inv (answer-next P q t (f ∷ g) h e n)) (resolved-carried f g a c h b r long))

  carry_on : (t : ℕ) (g h : Goal) → goal_at P q t ≡ some g → next_goal P g ≡ some h → Carries P q t g (answer_at P q t) → Carries P q (suc t) h (answer_at P q (suc t))
  carry_on t [] h e n x = absurd (none-ne-some h n)
  carry_on t (f ∷ g) h e n x = let (k, c, first, s) = carried_on t f g h e n in one_more k c x first s

  path-carries : (t : ℕ) (g : Goal) → goal_at P q t ≡ some g → Carries P q t g (answer_at P q t)
  path-carries zero g e =
      let o : q ≡ g = some-injective q g (inv (path-zero (next_goal P) q) ∙ e) in
      subst (λ x. Carries P q 0 x (answer_at P q 0)) o (subst (Carries P q 0 q) (inv (answer-zero P q)) none_yet)
  path-carries (suc t) g e = let b = path-back (next_goal P) t q g e in carry_on t b.0 g b.1 b.2 (path-carries t b.0 b.1)

  -- the goal and the answer by the relation are the path's goal and the answer that is computed
  pub carries_iff : (t : ℕ) (g a : Goal) → Carries P q t g a ↔ ((goal_at P q t ≡ some g) × (a ≡ answer_at P q t))
  carries_iff t g a = (carries-path, λ x. subst (Carries P q t g) (inv x.1) (path-carries t g x.0))

  -- so neither names nor most general unifiers make a difference to them
  pub carries-one : (t : ℕ) (g g' a a' : Goal) → Carries P q t g a → Carries P q t g' a' → (g ≡ g') × (a ≡ a')
  carries-one t g g' a a' x y =
      let (e, p) = carries-path x in
      let (d, r) = carries-path y in
      (some-injective g g' (inv e ∙ d), p ∙ inv r)
