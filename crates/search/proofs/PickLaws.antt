-- The pick and the apply call are what their relations say, and one after the other they are the single step.
use Rattle.std.specs.Prelude.{ℕ, zero, suc, ◌+◌, ◌<◌, ◌≡◌, refl, ◌↔◌, [], ◌∷◌, length}
use Rattle.std.proofs.Common.{arith, sym as inv, ap, ◌∙◌, subst, lt-ltb, le-ltb}
use Rattle.std.proofs.Math.Decide.{dec_lt}
use Rattle.std.proofs.Math.Option.{Option, none, some, some-injective, none-ne-some}
use Rattle.terms.specs.Node.{Expr}
use Rattle.terms.specs.Row.{Formulas}
use Rattle.terms.specs.Subst.{Subst}
use Rattle.terms.specs.Cases.{cases}
use Rattle.search.specs.Next.{Clause, Book, Goal, Clauses, Meets, First, NoneMeets, Resolved, clause_at}
use Rattle.search.specs.Step.{even, odd, later, meet, Choice, choice, resolve, stuck, to, move, next, counted}
use Rattle.search.specs.Room.{fits}
use Rattle.search.specs.Known.{known?, stuck_code, stuck-known, stuck-unknown}
use Rattle.search.specs.Single.{Single, if_fits, single, step}
use Rattle.search.specs.Pick.{Pick, no_pick, picked, pick, Picks, chosen_25, applied, apply_by, Applies, absent_32, apart_33, full_24, taken_25, then, pick_and_apply}
use Rattle.search.specs.Pick as Pick
use Rattle.search.proofs.NextLaws.{even_odd, meets-by, carried, first_one, first-none}
use Rattle.search.proofs.NextTheorem.{next_iff, stuck_iff}

clause-good : (P : Book) → Clauses P → (k : ℕ) → k < length P → Formulas ((clause_at P k).head ∷ (clause_at P k).body)
clause-good [] good k l = absurd (omega arith)
clause-good (c ∷ P) good zero l = good.0
clause-good (c ∷ P) good (suc k) l = clause-good P good.1 k (omega arith)

-- a clause that is resolved with meets
resolved-meets : (f : Expr) (r : Goal) (c : Clause) (h : Goal) → Resolved f r c h → Meets f c
resolved-meets f r c h s =
    let x = carried even odd s.goal_names s.clause_names f c.head [] [] (even_odd (f ∷ []) (c.head ∷ [])) s.unifier s.general.unifies in
    meets-by f c x.0.joint x.1

module _ (P : Book) (good : Clauses P) where
  none-picked : (g : Goal) → Formulas g → (f : Expr) (r : Goal) → g ≡ f ∷ r → NoneMeets f P → pick P g ≡ no_pick (stuck_code P (f ∷ r))
  none-picked g goal f r e n = ap (pick P) e ∙ ap (picked (stuck_code P (f ∷ r))) ((stuck_iff P good f r (subst Formulas e goal).0).1 n)

  -- what the pick says is so
  picks : (g : Goal) → Formulas g → Picks P g (pick P g)
  picks [] goal = Pick.solved_20 refl
  picks (f ∷ g) goal = go (choice P f) refl
    where
      go : (o : Option Choice) → choice P f ≡ o → Picks P (f ∷ g) (picked (stuck_code P (f ∷ g)) (move o g))
      go none e =
          let n = (stuck_iff P good f g goal.0).0 (ap (λ o. move o g) e) in
          elim (known? P f) [
            | yes k ↦ rw (stuck-known P (f ∷ g) k) (Pick.stuck_22 f g refl n k)
            | no u ↦ rw (stuck-unknown P (f ∷ g) u) (Pick.unknown_26 f g refl n u)
          ]
      go (some x) e = let n = (next_iff P good (f ∷ g) goal x.number (resolve x g)).1 (ap (λ o. move o g) e) in chosen_25 f g x.number n.0 refl n.1

  -- and nothing else is
  picks-one : (g : Goal) → Formulas g → (p : Pick) → Picks P g p → pick P g ≡ p
  picks-one g goal p (Pick.solved_20 e) = ap (pick P) e
  picks-one g goal p (Pick.stuck_22 f r e n k) = none-picked g goal f r e n ∙ ap no_pick (stuck-known P (f ∷ r) k)
  picks-one g goal p (Pick.unknown_26 f r e n u) = none-picked g goal f r e n ∙ ap no_pick (stuck-unknown P (f ∷ r) u)
  picks-one g goal p (chosen_25 f r k c e m) = ap (pick P) e ∙ go (choice P f) refl
    where
      go : (o : Option Choice) → choice P f ≡ o → picked (stuck_code P (f ∷ r)) (move o r) ≡ record { code = 25; clause = k }
      go none d = absurd (first-none P f k c ((stuck_iff P good f r (subst Formulas e goal).0).0 (ap (λ o. move o r) d)) m)
      go (some x) d =
          let n = (next_iff P good (f ∷ r) (subst Formulas e goal) x.number (resolve x r)).1 (ap (λ o. move o r) d) in
          ap (λ i. record { code = 25; clause = i }) (first_one P f x.number k n.0 c n.1 m).0

  -- the pick is document 02's
  pub pick_iff : (g : Goal) → Formulas g → (p : Pick) → (pick P g ≡ p) ↔ Picks P g p
  pick_iff g goal p = (λ e. subst (Picks P g) e (picks g goal), picks-one g goal p)

  -- One clause by itself.

  module _ (k : ℕ) (l : k < length P) where
    abbrev c : Clause
    c = clause_at P k

    alone : Clauses (c ∷ [])
    alone = (clause-good P good k l, tt)

    alone-stuck : (f : Expr) (r : Goal) → Formulas (f ∷ r) → (next (c ∷ []) (f ∷ r) ≡ stuck) ↔ (Meets f c → ⊥)
    alone-stuck f r goal = let i = stuck_iff (c ∷ []) alone f r goal.0 in (λ e. (i.0 e).0, λ n. i.1 (n, tt))

    alone-to : (f : Expr) (r h : Goal) → Formulas (f ∷ r) → Resolved f r c h → next (c ∷ []) (f ∷ r) ≡ to 0 h
    alone-to f r h goal s = (next_iff (c ∷ []) alone (f ∷ r) goal 0 h).0 (c, (refl, resolved-meets f r c h s), s)

    -- what the clause says is so
    apply-alone : (f : Expr) (r : Goal) → Formulas (f ∷ r) → Applies P (f ∷ r) k (applied k (next (c ∷ []) (f ∷ r)))
    apply-alone f r goal = go (choice (c ∷ []) f) refl
      where
        room : (h : Goal) → Resolved f r c h → Applies P (f ∷ r) k (if_fits (fits h) k h)
        room h s = cases (fits h) (λ e. rw e (taken_25 f r h refl l s e)) (λ e. rw e (full_24 f r h refl l s e))

        go : (o : Option Choice) → choice (c ∷ []) f ≡ o → Applies P (f ∷ r) k (applied k (move o r))
        go none e = apart_33 f r refl l ((alone-stuck f r goal).0 (ap (λ o. move o r) e))
        go (some x) e =
            let n = (next_iff (c ∷ []) alone (f ∷ r) goal x.number (resolve x r)).1 (ap (λ o. move o r) e) in
            room (resolve x r) (subst (λ d. Resolved f r d (resolve x r)) (only x.number n.0 n.1) n.2)
          where
            only : (i : ℕ) (d : Clause) → First f (c ∷ []) i d → d ≡ c
            only zero d p = inv p.0
            only (suc i) d p = absurd p.1

  -- the apply call
  applies : (g : Goal) → Formulas g → (k : ℕ) → Applies P g k (apply_by P g k)
  applies [] goal k = Pick.solved_20 refl
  applies (f ∷ r) goal k = elim (dec_lt k (length P)) [
    | yes l ↦ rw (lt-ltb k (length P) l) (apply-alone k l f r goal)
    | no n ↦ rw (le-ltb k (length P) (omega arith)) (absent_32 f r refl (omega arith))
  ]

  applies-one : (g : Goal) → Formulas g → (k : ℕ) (s : Single) → Applies P g k s → apply_by P g k ≡ s
  applies-one g goal k s (Pick.solved_20 e) = ap (λ x. apply_by P x k) e
  applies-one g goal k s (absent_32 f r e l) = ap (λ x. apply_by P x k) e ∙ rw (le-ltb k (length P) l)
  applies-one g goal k s (apart_33 f r e l n) = ap (λ x. apply_by P x k) e ∙ rw (lt-ltb k (length P) l) (ap (applied k) ((alone-stuck k l f r (subst Formulas e goal)).1 n))
  applies-one g goal k s (full_24 f r h e l x z) =
      ap (λ x. apply_by P x k) e ∙ rw (lt-ltb k (length P) l) (ap (applied k) (alone-to k l f r h (subst Formulas e goal) x) ∙ ap (λ b. if_fits b k h) z)
  applies-one g goal k s (taken_25 f r h e l x z) =
      ap (λ x. apply_by P x k) e ∙ rw (lt-ltb k (length P) l) (ap (applied k) (alone-to k l f r h (subst Formulas e goal) x) ∙ ap (λ b. if_fits b k h) z)

  -- the apply call is document 02's: by any clause it is the relation's next goal for that clause
  pub apply_iff : (g : Goal) → Formulas g → (k : ℕ) (s : Single) → (apply_by P g k ≡ s) ↔ Applies P g k s
  apply_iff g goal k s = (λ e. subst (Applies P g k) e (applies g goal k), applies-one g goal k s)

-- "Applying the picked clause gives document 01's next goal": picking and then applying is the single step, whatever the book and the goal.

-- a choice is of a clause by its number, and of what unifies its head
pub record ChoiceAt (P : Book) (f : Expr) (x : Choice) : Type 0 where
  pub within : x.number < length P
  pub clause : clause_at P x.number ≡ x.clause
  pub unifier : meet f x.clause ≡ some x.unifier

later-at : (P : Book) (c : Clause) (f : Expr) (o : Option Choice) (x : Choice) → ((y : Choice) → o ≡ some y → ChoiceAt P f y) → later o ≡ some x → ChoiceAt (c ∷ P) f x
later-at P c f none x all e = absurd (none-ne-some x e)
later-at P c f (some y) x all e = let k = all y refl in subst (ChoiceAt (c ∷ P) f) (some-injective _ x e) (record { within = omega (arith, k.within); clause = k.clause; unifier = k.unifier })

choice-at : (P : Book) (f : Expr) (x : Choice) → choice P f ≡ some x → ChoiceAt P f x
choice-at [] f x e = absurd (none-ne-some x e)
choice-at (c ∷ P) f x e = go (meet f c) refl (λ y. choice-at P f y) e
  where
    go : (o : Option Subst) → meet f c ≡ o → ((y : Choice) → choice P f ≡ some y → ChoiceAt P f y) → elim o [ none ↦ later (choice P f) | some σ ↦ some (record { number = 0; clause = c; unifier = σ }) ] ≡ some x → ChoiceAt (c ∷ P) f x
    go none d all e = later-at P c f (choice P f) x all e
    go (some σ) d all e = subst (ChoiceAt (c ∷ P) f) (some-injective _ x e) (record { within = omega arith; clause = refl; unifier = d })

-- a clause whose head unifies with f leads somewhere by itself
alone-by : (f : Expr) (r : Goal) (c : Clause) (σ : Subst) → meet f c ≡ some σ → next (c ∷ []) (f ∷ r) ≡ to 0 (resolve (record { number = 0; clause = c; unifier = σ }) r)
alone-by f r c σ e = rw (e, choice) refl

pub two_calls : (P : Book) (g : Goal) → step P g ≡ pick_and_apply P g
two_calls P [] = refl
two_calls P (f ∷ r) = go (choice P f) refl
  where
    go : (o : Option Choice) → choice P f ≡ o → single (stuck_code P (f ∷ r)) (counted 0 (move o r)) ≡ then P (f ∷ r) (picked (stuck_code P (f ∷ r)) (move o r))
    go none e = elim (known? P f) [ yes k ↦ rw (stuck-known P (f ∷ r) k) refl | no u ↦ rw (stuck-unknown P (f ∷ r) u) refl ]
    go (some x) e =
        let k = choice-at P f x e in
        let a = subst (λ c. next (c ∷ []) (f ∷ r) ≡ to 0 (resolve x r)) (inv k.clause) (alone-by f r x.clause x.unifier k.unifier) in
        let z : 0 + x.number ≡ x.number = omega arith in
        rw (z, lt-ltb x.number (length P) k.within) (inv (ap (applied x.number) a))
