-- The next goal and answer by a clause, under a most general unifier: by any names that are apart.
use Prim.Native.Nat.{ℕ, ◌+◌}
use mathlib.Core.Path.{◌≡◌, refl, sym as inv, ap, ap₂, ◌∙◌}
use mathlib.Core.List.{List, [], ◌∷◌, ◌++◌, map, map-append, append_assoc}
use lib.ListN.{length, length-append, length-map}
use Rattle.terms.specs.Node.{Expr}
use Rattle.terms.specs.Row.{Row, Every, Formulas, Atom, Atoms}
use Rattle.terms.specs.RowLaws.{every_append}
use Rattle.terms.specs.Subst.{Subst, apply, MostGeneral}
use Rattle.terms.specs.Rename.{rename, Apart}
use Rattle.terms.specs.Number.{number, number_all, seen_after, seen_all}
use Rattle.terms.proofs.NumberLaws.{number-all-length, number-all-append, number-length, seen-append}
use Rattle.search.specs.Next.{Clause, Goal, resolvent, Resolved}
use Rattle.search.proofs.NextLaws.{resolved-formulas, resolved-atoms}
use Rattle.search.specs.Room.{nodes as size}
use Rattle.words.specs.Flat.{flat, flat_append, flat-apply, flat-rename, flat-number, flat-size}
use Rattle.applying.specs.Applying.{Onward}

every-right : (Q : Expr → Type 0) (g r : Goal) → Every Q (g ++ r) → Every Q r
every-right Q [] r p = p
every-right Q (e ∷ g) r p = every-right Q g r p.1

module _ (α β : ℕ → ℕ) (f : Expr) (g a : Goal) (c : Clause) (near : Apart α β (f ∷ g) (c.head ∷ c.body)) (far : Apart α β (f ∷ (g ++ a)) (c.head ∷ c.body))
    (σ : Subst) (general : MostGeneral σ (rename α f) (rename β c.head)) where
  abbrev front : Goal
  front = resolvent α β σ c g

  abbrev tail : Goal
  tail = map (apply σ) (map (rename α) a)

  abbrev pub h : Goal
  h = number_all [] front

  abbrev pub b : Goal
  b = number_all (seen_all [] front) tail

  resolved : (rest next : Goal) → Apart α β (f ∷ rest) (c.head ∷ c.body) → next ≡ number_all [] (resolvent α β σ c rest) → Resolved f rest c next
  resolved rest next apart e = record { goal_names = α; clause_names = β; apart = apart; unifier = σ; general = general; result = e }

  -- the two are numbered as one, the goal first
  whole : h ++ b ≡ number_all [] (resolvent α β σ c (g ++ a))
  whole =
      inv (number-all-append [] front tail) ∙ ap (number_all []) (inv (map-append (apply σ) (map (rename β) c.body ++ map (rename α) g) (map (rename α) a))
      ∙ ap (map (apply σ)) (append_assoc (map (rename β) c.body) (map (rename α) g) (map (rename α) a) ∙ ap (λ l. map (rename β) c.body ++ l) (inv (map-append (rename α) g a))))

  pub onward : Onward f g a c h b
  onward = record {
    goal = resolved g h near refl;
    whole = resolved (g ++ a) (h ++ b) far whole;
    as_many = number-all-length (seen_all [] front) tail ∙ length-map (map (rename α) a) (apply σ) ∙ length-map a (rename α);
  }

  abbrev pub goal_image : Expr
  goal_image = apply σ (rename β (flat c.body) ++ rename α (flat g))

  abbrev pub answer_image : Expr
  answer_image = apply σ (rename α (flat a))

  front-flat : flat front ≡ goal_image
  front-flat =
      flat-apply σ (map (rename β) c.body ++ map (rename α) g)
      ∙ ap (apply σ) (flat_append (map (rename β) c.body) (map (rename α) g) ∙ ap₂ ◌++◌ (flat-rename β c.body) (flat-rename α g))

  tail-flat : flat tail ≡ answer_image
  tail-flat = flat-apply σ (map (rename α) a) ∙ ap (apply σ) (flat-rename α a)

  pub goal-flat : flat h ≡ number [] goal_image
  goal-flat = flat-number [] front ∙ ap (number []) front-flat

  seen-flat : (seen : List ℕ) (l : Goal) → seen_all seen l ≡ seen_after seen (flat l)
  seen-flat seen [] = refl
  seen-flat seen (e ∷ l) = seen-flat (seen_after seen e) l ∙ inv (seen-append seen e (flat l))

  pub answer-flat : flat b ≡ number (seen_after [] goal_image) answer_image
  answer-flat = flat-number (seen_all [] front) tail ∙ ap₂ number (seen-flat [] front ∙ ap (seen_after []) front-flat) tail-flat

  pub goal-size : size h ≡ length goal_image
  goal-size = inv (flat-size h) ∙ ap length goal-flat ∙ number-length [] goal_image

  pub answer-size : size b ≡ length answer_image
  answer-size = inv (flat-size b) ∙ ap length answer-flat ∙ number-length (seen_after [] goal_image) answer_image

  pub goal-count : length h ≡ length c.body + length g
  goal-count =
      number-all-length [] front ∙ length-map (map (rename β) c.body ++ map (rename α) g) (apply σ)
      ∙ length-append (map (rename β) c.body) (map (rename α) g) ∙ ap₂ ◌+◌ (length-map c.body (rename β)) (length-map g (rename α))

  -- both are of formulas
  module _ (body : Formulas c.body) (rest : Formulas g) where
    pub goal-formulas : Formulas h
    goal-formulas = resolved-formulas f g c h body rest onward.goal

    pub answer-formulas : Formulas a → Formulas b
    answer-formulas behind = every-right (Row 1) h b (resolved-formulas f (g ++ a) c (h ++ b) body (every_append (Row 1) g a rest behind) onward.whole)

  module _ (body : Atoms c.body) (rest : Atoms g) where
    pub goal-atoms : Atoms h
    goal-atoms = resolved-atoms f g c h body rest onward.goal

    pub answer-atoms : Atoms a → Atoms b
    answer-atoms behind = every-right Atom h b (resolved-atoms f (g ++ a) c (h ++ b) body (every_append Atom g a rest behind) onward.whole)
