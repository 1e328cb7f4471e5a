-- The single step in two calls (document 02, C-16): "one call picks the clause, a second applies a clause by its number."
use Rattle.std.specs.Prelude.{ℕ, ◌≤◌, ◌<◌, ◌≡◌, true, false, [], ◌∷◌, eqb, ltb, length}
use Rattle.std.proofs.Math.Option.{none, some}
use Rattle.terms.specs.Node.{Expr}
use Rattle.terms.specs.When.{◌⇒◌∣◌}
use Rattle.search.specs.Next.{Clause, Book, Goal, Meets, First, NoneMeets, Resolved, clause_at}
use Rattle.search.specs.Step.{Step, solved, stuck, to, next}
use Rattle.search.specs.Room.{fits}
use Rattle.search.specs.Known.{Known, stuck_code}
use Rattle.search.specs.Single.{Single, not_taken, if_fits}

-- The pick "answers 20, 22, 26 or else 25 with the clause number; it doesn't look at the next goal's size".

pub record Pick : Type 0 where
  pub code : ℕ
  pub clause : ℕ

abbrev pub no_pick : ℕ → Pick
no_pick c = record { code = c; clause = 0 }

abbrev pub picked : ℕ → Step → Pick
picked c solved = no_pick 20
picked c stuck = no_pick c
picked c (to k h) = record { code = 25; clause = k }

abbrev pub pick : Book → Goal → Pick
pick P g = picked (stuck_code P g) (next P g)

-- told by the relation
pub data Picks (P : Book) (g : Goal) : Pick → Type 0 where
  solved_20 : g ≡ [] → Picks P g (record { code = 20; clause = 0 })
  stuck_22 : (f : Expr) (r : Goal) → g ≡ f ∷ r → NoneMeets f P → Known P f → Picks P g (record { code = 22; clause = 0 })
  unknown_26 : (f : Expr) (r : Goal) → g ≡ f ∷ r → NoneMeets f P → ¬ Known P f → Picks P g (record { code = 26; clause = 0 })
  chosen_25 : (f : Expr) (r : Goal) (k : ℕ) (c : Clause) → g ≡ f ∷ r → First f P k c → Picks P g (record { code = 25; clause = k })

-- The apply call "answers 25 with steps 1 and its clause number and writes the next goal, or is refused and writes nothing": "20 empty goal, 32 no such clause, 33 head
-- doesn't unify, 24; in this order".

-- what the clause number k alone says
abbrev pub applied : ℕ → Step → Single
applied k solved = not_taken 20
applied k stuck = not_taken 33
applied k (to j h) = if_fits (fits h) k h

abbrev pub apply_by : Book → Goal → ℕ → Single
apply_by P [] k = not_taken 20
apply_by P (f ∷ g) k = ltb k (length P) ⇒ applied k (next (clause_at P k ∷ []) (f ∷ g)) ∣ not_taken 32

-- told by the relation, for any renaming apart and any most general unifier
pub data Applies (P : Book) (g : Goal) (k : ℕ) : Single → Type 0 where
  solved_20 : g ≡ [] → Applies P g k (record { code = 20; steps = 0; clause = 0; written = none })
  absent_32 : (f : Expr) (r : Goal) → g ≡ f ∷ r → length P ≤ k → Applies P g k (record { code = 32; steps = 0; clause = 0; written = none })
  apart_33 : (f : Expr) (r : Goal) → g ≡ f ∷ r → k < length P → (Meets f (clause_at P k) → ⊥) → Applies P g k (record { code = 33; steps = 0; clause = 0; written = none })
  full_24 : (f : Expr) (r h : Goal) → g ≡ f ∷ r → k < length P → Resolved f r (clause_at P k) h → fits h ≡ false → Applies P g k (record { code = 24; steps = 0; clause = 0; written = none })
  taken_25 : (f : Expr) (r h : Goal) → g ≡ f ∷ r → k < length P → Resolved f r (clause_at P k) h → fits h ≡ true → Applies P g k (record { code = 25; steps = 1; clause = k; written = some h })

-- one call after the other: where a clause is picked it is applied
abbrev pub then : Book → Goal → Pick → Single
then P g p = eqb p.code 25 ⇒ apply_by P g p.clause ∣ not_taken p.code

abbrev pub pick_and_apply : Book → Goal → Single
pick_and_apply P g = then P g (pick P g)
