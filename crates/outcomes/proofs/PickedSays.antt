-- "Applying the picked clause gives document 01's next goal" (document 02, C-16), of bytes: the relation's, by any names that are apart and any most general unifier.
use Rattle.std.specs.Prelude.{ℕ, zero, suc, ◌≤◌, ◌<◌, ◌≡◌, refl, List, [], ◌∷◌, ◌++◌, length, drop}
use Rattle.std.proofs.Common.{arith, sym as inv, ap, ◌∙◌, subst}
use Rattle.terms.specs.Node.{Expr}
use Rattle.search.specs.Next.{Clause, Book, Goal, Meets, First, Resolved, Next, clause_at}
use Rattle.search.specs.Room.{nodes}
use Rattle.search.specs.Told.{TooBig}
use Rattle.format.specs.Format.{encode_goal, Bytes}
use Rattle.format.specs.Decode.{book_of, goal_of}
use Rattle.outcomes.specs.declared.Picked.{Picked}
use Rattle.outcomes.specs.declared.Stepped.{Stepped}
use Rattle.outcomes.specs.declared.admit.Admitted.{Admitted}
use Rattle.outcomes.specs.Outcome.{refusal, pick_answer, apply_answer, apply_area}
use Rattle.outcomes.specs.Refusals.{not-refused}
use Rattle.outcomes.proofs.Calls.{room-alike}
use Rattle.outcomes.proofs.CallSays.{PickSays, chosen, ApplySays, absent, apart, pick-says, apply-says}
use Rattle.outcomes.proofs.CallSays as Says

-- the next goal of q by P, from the clause number k, with what is answered and left: it is written, or there is no room for it
pub data GivesNext (P : Book) (q : Goal) (k : ℕ) (area : List ℕ) : Stepped → List ℕ → Type 0 where
  full : (h : Goal) → Next P q k h → TooBig h → GivesNext P q k area (record { code = 24; place = 0; steps = 0; span = 0; bytes = 0; clause = 0; furthest = 0; argument = 0 }) area
  went : (h : Goal) → Next P q k h → length h ≤ 512 → nodes h ≤ 4096
      → GivesNext P q k area (record { code = 25; place = 0; steps = 1; span = 0; bytes = length (encode_goal h); clause = k; furthest = 0; argument = 0 }) (encode_goal h ++ drop (length (encode_goal h)) area)

-- the first clause that meets is the clause of its number, and meets
record FirstAt (f : Expr) (P : Book) (k : ℕ) (c : Clause) : Type 0 where
  within : k < length P
  clause : clause_at P k ≡ c
  meets : Meets f c

first-at : (f : Expr) (P : Book) (k : ℕ) (c : Clause) → First f P k c → FirstAt f P k c
first-at f [] k c m = absurd m
first-at f (d ∷ P) zero c m = record { within = omega arith; clause = m.0; meets = m.1 }
first-at f (d ∷ P) (suc k) c m = let a = first-at f P k c m.1 in record { within = omega (arith, a.within); clause = a.clause; meets = a.meets }

-- what a pick with code 25 says
record Chosen (P : Book) (q : Goal) (k : ℕ) : Type 0 where
  formula : Expr
  rest : Goal
  clause : Clause
  goal : q ≡ formula ∷ rest
  is_first : First formula P k clause

chosen_by : {P : Book} {q : Goal} {r : Picked} → PickSays P q r → r.code ≡ 25 → Chosen P q r.clause
chosen_by (Says.solved e) is = absurd (omega arith)
chosen_by (Says.stuck f g e n k w x) is = absurd (omega arith)
chosen_by (Says.unknown f g e n u) is = absurd (omega arith)
chosen_by (chosen f g k c e m) is = record { formula = f; rest = g; clause = c; goal = e; is_first = m }

module _ (P : Book) (q : Goal) (k : ℕ) (by : Chosen P q k) where
  -- of the goal's own first formula
  first_of : (f : Expr) (g : Goal) → q ≡ f ∷ g → First f P k by.clause
  first_of f g e = subst (λ x. First x P k by.clause) (let p : by.formula ≡ f = cc (e, by.goal) in p) by.is_first

  next_of : (f : Expr) (g h : Goal) → q ≡ f ∷ g → Resolved f g (clause_at P k) h → Next P q k h
  next_of f g h e x =
      let m = first_of f g e in
      subst (λ (t : Goal). Next P t k h) (inv e) (by.clause, m, subst (λ c. Resolved f g c h) (first-at f P k by.clause m).clause x)

  -- the clause that is picked is there, and its head unifies
  applied-next : (area : List ℕ) {r : Stepped} {after : List ℕ} → ApplySays P q k area r after → GivesNext P q k area r after
  applied-next area (Says.solved e) = absurd (let z : ◌≡◌ {A = Goal} [] (by.formula ∷ by.rest) = inv e ∙ by.goal in let n : ◌≡◌ {A = ℕ} 0 (suc (length by.rest)) = ap length z in omega (arith, n))
  applied-next area (absent f g e l) = absurd (omega (arith, l, (first-at f P k by.clause (first_of f g e)).within))
  applied-next area (apart f g e l n) = let a = first-at f P k by.clause (first_of f g e) in absurd (n (subst (Meets f) (inv a.clause) a.meets))
  applied-next area (Says.full f g h e l x b) = full h (next_of f g h e x) b
  applied-next area (Says.went f g h e l x m n) = went h (next_of f g h e x) m n

module _ (book query area : List ℕ) (book-bytes : Bytes book) (query-bytes : Bytes query) where
  abbrev picked : Picked
  picked = pick_answer book query

  pub picked-applied : (refusal book query (length area)).code ≡ 0 → picked.code ≡ 25
      → GivesNext (book_of book) (goal_of query) picked.clause area (apply_answer book query picked.clause area) (apply_area book query picked.clause area)
  picked-applied z e =
      let alike = room-alike book query (length area) (not-refused book query (length area) z).enough in
      let taken : (refusal book query 16387).code ≡ 0 = inv (ap (λ (a : Admitted). a.code) alike) ∙ z in
      let by = chosen_by ((pick-says book query book-bytes query-bytes taken picked).0 refl) e in
      applied-next (book_of book) (goal_of query) picked.clause by area ((apply-says book query book-bytes query-bytes area z picked.clause _ _).0 (refl, refl))
