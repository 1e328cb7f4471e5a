-- Names do not matter: goals that are variants have the same next goal.
use Rattle.std.specs.Prelude.{ℕ, zero, suc, ◌≡◌, refl}
use Rattle.std.proofs.Common.{sym as inv, ap, ◌∙◌, subst}
use Rattle.std.proofs.Math.Option.{Option, none, some}
use mathlib.Core.List.{List, [], ◌∷◌, ◌++◌, map, map-map, head-eq_of_cons-eq}
use Rattle.terms.specs.Node.{Expr}
use Rattle.terms.specs.Row.{Row, Formulas}
use Rattle.terms.specs.Subst.{InAny, Subst, apply}
use Rattle.terms.specs.Rename.{rename, Variants, InjectiveOn, Apart}
use Rattle.terms.specs.Number.{number_all}
use Rattle.terms.specs.RowLaws.{every_map}
use Rattle.terms.specs.SubstLaws.{map_same}
use Rattle.terms.specs.RenameLaws.{in-any-rename, rename-row, rename-rename}
use Rattle.terms.proofs.VariantLaws.{variants_flip, variants_injective}
use Rattle.search.specs.Next.{Clause, Book, Goal, Clauses, Meets, First, NoneMeets, resolvent, Resolved, Next}
use Rattle.search.specs.Step.{even, odd, Choice, choice, resolve, move, next}
use Rattle.search.proofs.NextLaws.{even_odd, meets-by, carried}
use Rattle.search.proofs.NextTheorem.{next_iff, stuck_iff}

-- f and g, and the same renamed
module _ (ρ : ℕ → ℕ) (f : Expr) (g : Goal) (inj : InjectiveOn (λ v. InAny v (f ∷ g)) ρ) where
  -- names apart for the renamed goal are so, after ρ, for the goal
  apart-after : (α β : ℕ → ℕ) (h : List Expr) → Apart α β (map (rename ρ) (f ∷ g)) h → Apart (λ v. α (ρ v)) β (f ∷ g) h
  apart-after α β h a = record {
    left = λ v w i j p. inj v w i j (a.left (ρ v) (ρ w) (in-any-rename ρ v (f ∷ g) i) (in-any-rename ρ w (f ∷ g) j) p);
    right = a.right;
    shared = λ v w i j p. a.shared (ρ v) w (in-any-rename ρ v (f ∷ g) i) j p;
  }

  resolvent_renamed : (α β : ℕ → ℕ) (σ : Subst) (c : Clause) → resolvent α β σ c (map (rename ρ) g) ≡ resolvent (λ v. α (ρ v)) β σ c g
  resolvent_renamed α β σ c =
      ap (λ r. map (apply σ) (map (rename β) c.body ++ r)) (map-map (rename α) (rename ρ) g ∙ map_same (rename-rename α ρ) g)

  resolved_renamed : (c : Clause) (h : Goal) → Resolved (rename ρ f) (map (rename ρ) g) c h → Resolved f g c h
  resolved_renamed c h t = record {
    goal_names = λ v. t.goal_names (ρ v);
    clause_names = t.clause_names;
    apart = apart-after t.goal_names t.clause_names (c.head ∷ c.body) t.apart;
    unifier = t.unifier;
    general = rw (rename-rename t.goal_names ρ f) at t.general;
    result = t.result ∙ ap (number_all []) (resolvent_renamed t.goal_names t.clause_names t.unifier c);
  }

  -- a head unifies with both or with none
  meets-of_renamed : (c : Clause) → Meets (rename ρ f) c → Meets f c
  meets-of_renamed c m =
      meets-by f c _
      (carried even odd (λ v. m.goal_names (ρ v)) m.clause_names f c.head [] [] (even_odd (f ∷ []) (c.head ∷ [])) m.unifier
      (rw (rename-rename m.goal_names ρ f) at m.unifies)).1

  renamed_meets : (c : Clause) → Meets f c → Meets (rename ρ f) c
  renamed_meets c m =
      meets-by (rename ρ f) c _
      (rw (← rename-rename even ρ f) at
      (carried (λ v. even (ρ v)) odd m.goal_names m.clause_names f c.head g []
      (apart-after even odd (c.head ∷ []) (even_odd (map (rename ρ) (f ∷ g)) (c.head ∷ []))) m.unifier m.unifies).1)

  first_renamed : (P : Book) (k : ℕ) (c : Clause) → First (rename ρ f) P k c → First f P k c
  first_renamed (d ∷ P) zero c p = (p.0, meets-of_renamed c p.1)
  first_renamed (d ∷ P) (suc k) c p = ((λ m. p.0 (renamed_meets d m)), first_renamed P k c p.1)
  first_renamed [] k c p = elim p [ ]

  none_renamed : (P : Book) → NoneMeets (rename ρ f) P → NoneMeets f P
  none_renamed [] n = tt
  none_renamed (c ∷ P) n = ((λ m. n.0 (renamed_meets c m)), none_renamed P n.1)

-- variants have the same next goal, by the relation
pub next-variants : (P : Book) (g g' : Goal) → Variants g g' → (k : ℕ) (h : Goal) → Next P g' k h → Next P g k h
next-variants P g g' s k h t = go g (variants_injective g g' s) (subst (λ x. Next P x k h) (inv s.there) t)
  where
    go : (x : Goal) → InjectiveOn (λ v. InAny v x) s.forth → Next P (map (rename s.forth) x) k h → Next P x k h
    go (f ∷ x) inj n = (n.0, first_renamed s.forth f x inj P k n.0 n.1, resolved_renamed s.forth f x inj n.0 h n.2)
    go [] inj n = elim n [ ]

-- and by the definition that computes
module _ (P : Book) (good : Clauses P) where
  pub next-same : (g g' : Goal) → Formulas g → Variants g g' → next P g ≡ next P g'
  next-same [] [] goal s = refl
  next-same [] (f' ∷ g') goal s = let z : [] ≡ f' ∷ g' = s.there in cc
  next-same (f ∷ g) [] goal s = let z : [] ≡ f ∷ g = s.home in cc
  next-same (f ∷ g) (f' ∷ g') goal s = go (choice P f) refl
    where
      goal' : Formulas (f' ∷ g')
      goal' = subst Formulas s.there (every_map (Row 1) (rename s.forth) (λ e r. rename-row s.forth r) (f ∷ g) goal)

      go : (o : Option Choice) → choice P f ≡ o → next P (f ∷ g) ≡ next P (f' ∷ g')
      go none p =
          let e = ap (λ o. move o g) p in
          let inj = variants_injective (f' ∷ g') (f ∷ g) (variants_flip s) in
          let n = none_renamed s.back f' g' inj P (subst (λ e. NoneMeets e P) (inv (head-eq_of_cons-eq s.home)) ((stuck_iff P good f g goal.0).0 e)) in
          e ∙ inv ((stuck_iff P good f' g' goal'.0).1 n)
      go (some x) p =
          let e = ap (λ o. move o g) p in
          let n = next-variants P (f' ∷ g') (f ∷ g) (variants_flip s) x.number (resolve x g) ((next_iff P good (f ∷ g) goal x.number (resolve x g)).1 e) in
          e ∙ inv ((next_iff P good (f' ∷ g') goal' x.number (resolve x g)).0 n)
