-- The single step is what the relation says, and nothing else.
use Rattle.std.specs.Prelude.{ℕ, zero, suc, ◌+◌, ◌≡◌, refl, ◌↔◌, [], ◌∷◌, drop}
use Rattle.std.proofs.Common.{sym as inv, ap, ◌∙◌, subst}
use Rattle.std.proofs.Math.Option.{Option, none, some}
use Rattle.terms.specs.Node.{Expr}
use Rattle.terms.specs.Row.{Formulas}
use Rattle.terms.specs.Cases.{cases}
use Rattle.search.specs.Next.{Book, Goal, Clauses, NoneMeets, NextFrom}
use Rattle.search.specs.Step.{Choice, choice, resolve, Step, solved, stuck, to, move, next, counted, next_from}
use Rattle.search.specs.Room.{fits}
use Rattle.search.specs.Known.{known?, stuck_code, stuck-known, stuck-unknown}
use Rattle.search.specs.Single.{Single, not_taken, if_fits, single, step_from, Steps, solved_20, stuck_22, unknown_26, full_24, taken_25}
use Rattle.search.proofs.NextTheorem.{next_iff, stuck_iff}

pub clauses-drop : (j : ℕ) (P : Book) → Clauses P → Clauses (drop j P)
clauses-drop zero P good = good
clauses-drop (suc j) [] good = tt
clauses-drop (suc j) (c ∷ P) good = clauses-drop j P good.1

-- a step that counts from j leads by the clause that many further on
counted-to : (j : ℕ) (s : Step) (k : ℕ) (h : Goal) → counted j s ≡ to k h → (i : ℕ) × (k ≡ j + i) × (s ≡ to i h)
counted-to j solved k h e = (0, cc, cc)
counted-to j stuck k h e = (0, cc, cc)
counted-to j (to i g) k h e = (i, cc, cc)

module _ (j : ℕ) (P : Book) (good : Clauses P) where
  rest-clauses : Clauses (drop j P)
  rest-clauses = clauses-drop j P good

  pub next-from_iff : (g : Goal) → Formulas g → (k : ℕ) (h : Goal) → NextFrom j P g k h ↔ (next_from j P g ≡ to k h)
  next-from_iff g goal k h = (
    λ n. ap (counted j) ((next_iff (drop j P) rest-clauses g goal n.later h).0 n.next) ∙ ap (λ i. to i h) (inv n.number),
    λ e. let c = counted-to j (next (drop j P) g) k h e in record { later = c.0; number = c.1; next = (next_iff (drop j P) rest-clauses g goal c.0 h).1 c.2 },
  )

  -- what the step says is so
  step-says : (g : Goal) → Formulas g → Steps j P g (step_from j P g)
  step-says [] goal = solved_20 refl
  step-says (f ∷ g) goal = go (choice (drop j P) f) refl
    where
      room : (k : ℕ) (h : Goal) → NextFrom j P (f ∷ g) k h → Steps j P (f ∷ g) (if_fits (fits h) k h)
      room k h n = cases (fits h) (λ e. rw e (taken_25 k h n e)) (λ e. rw e (full_24 k h n e))

      go : (o : Option Choice) → choice (drop j P) f ≡ o → Steps j P (f ∷ g) (single (stuck_code P (f ∷ g)) (counted j (move o g)))
      go none e =
          let n = (stuck_iff (drop j P) rest-clauses f g goal.0).0 (ap (λ o. move o g) e) in
          elim (known? P f) [ yes k ↦ rw (stuck-known P (f ∷ g) k) (stuck_22 f g refl n k) | no u ↦ rw (stuck-unknown P (f ∷ g) u) (unknown_26 f g refl n u) ]
      go (some x) e = room (j + x.number) (resolve x g) ((next-from_iff (f ∷ g) goal _ _).1 (ap (λ o. counted j (move o g)) e))

  stopped : (g : Goal) → Formulas g → (f : Expr) (r : Goal) → g ≡ f ∷ r → NoneMeets f (drop j P) → step_from j P g ≡ not_taken (stuck_code P (f ∷ r))
  stopped g goal f r e n = ap (step_from j P) e ∙ ap (λ x. single (stuck_code P (f ∷ r)) (counted j x)) ((stuck_iff (drop j P) rest-clauses f r (subst Formulas e goal).0).1 n)

  -- and nothing else is
  steps-one : (g : Goal) → Formulas g → (s : Single) → Steps j P g s → step_from j P g ≡ s
  steps-one g goal s (solved_20 e) = ap (step_from j P) e
  steps-one g goal s (stuck_22 f r e n k) = stopped g goal f r e n ∙ ap not_taken (stuck-known P (f ∷ r) k)
  steps-one g goal s (unknown_26 f r e n u) = stopped g goal f r e n ∙ ap not_taken (stuck-unknown P (f ∷ r) u)
  steps-one g goal s (full_24 k h n f) = ap (single (stuck_code P g)) ((next-from_iff g goal k h).0 n) ∙ ap (λ b. if_fits b k h) f
  steps-one g goal s (taken_25 k h n f) = ap (single (stuck_code P g)) ((next-from_iff g goal k h).0 n) ∙ ap (λ b. if_fits b k h) f

  -- the single step is document 01's, for any renaming apart and any most general unifier
  pub step_iff : (g : Goal) → Formulas g → (s : Single) → (step_from j P g ≡ s) ↔ Steps j P g s
  step_iff g goal s = (λ e. subst (Steps j P g) e (step-says g goal), steps-one g goal s)
