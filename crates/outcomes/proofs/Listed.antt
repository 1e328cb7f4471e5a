-- "Every book and query, however damaged, gets exactly one answer from a fixed list": each code stands where document 01 has it.
use Rattle.std.specs.Prelude.{ℕ, ◌≤◌, ◌<◌, ◌≡◌, ◌⊎◌, Bool, true, false, List, [], ◌∷◌, length}
use Rattle.std.proofs.Math.Decide.{dec_lt}
use Rattle.std.proofs.Common.{arith, lt-ltb, le-ltb, ap, inl, inr}
use Rattle.search.specs.Step.{Step, solved, stuck, to, next, next_from}
use Rattle.search.specs.Next.{Book, Goal, clause_at}
use Rattle.search.specs.Room.{fits}
use Rattle.search.specs.Known.{knows?, stuck_code, stuck-known, stuck-unknown}
use Rattle.search.specs.Single.{if_fits, single}
use Rattle.search.specs.Furthest.{no_figures}
use Rattle.search.specs.Pick.{picked, applied, apply_by}
use Rattle.format.specs.Reading.{book_verdict, query_verdict}
use Rattle.format.specs.Decode.{book_of, goal_of}
use Rattle.format.proofs.Codes.{Coded, book-coded, query-coded}
use Rattle.outcomes.specs.declared.admit.Admitted.{Admitted}
use Rattle.outcomes.specs.Outcome.{refusal, room, run_answer, stepped, step_answer, pick_answer, apply_answer}
use Rattle.outcomes.specs.Refusals.{area-short, book_decides, query_decides}
use Rattle.outcomes.specs.Stepping as Stepping
use Rattle.outcomes.specs.Running as Running
use Rattle.outcomes.proofs.Calls.{pick-refused, pick-taken}
use Rattle.outcomes.proofs.Figures.{RunCode, run-codes, run-code-between}

-- a refusal's: area too short; a fault of the book; a fault of the query
pub data Refused : ℕ → Type 0 where
  area : Refused 1
  book : {c : ℕ} → 2 ≤ c → c ≤ 7 → Refused c
  query : {c : ℕ} → 12 ≤ c → c ≤ 17 → Refused c

-- "A single step gives 20, 22, 24 or 25", or 26 in the place of 22
pub data StepCode : ℕ → Type 0 where
  step_20 : StepCode 20
  step_22 : StepCode 22
  step_24 : StepCode 24
  step_25 : StepCode 25
  step_26 : StepCode 26

-- "The pick answers 20, 22, 26 or else 25" (document 02, C-16)
pub data PickCode : ℕ → Type 0 where
  pick_20 : PickCode 20
  pick_22 : PickCode 22
  pick_26 : PickCode 26
  pick_25 : PickCode 25

-- the apply call's: "20 empty goal, 32 no such clause, 33 head doesn't unify, 24", or else 25
pub data ApplyCode : ℕ → Type 0 where
  apply_20 : ApplyCode 20
  apply_32 : ApplyCode 32
  apply_33 : ApplyCode 33
  apply_24 : ApplyCode 24
  apply_25 : ApplyCode 25

-- an entry's: a refusal's or its own
pub data Listed (Own : ℕ → Type 0) : ℕ → Type 0 where
  refused : {c : ℕ} → Refused c → Listed Own c
  taken : {c : ℕ} → Own c → Listed Own c

-- code 1 is the short area's, and no other's
pub short-only : (b q : List ℕ) (room : ℕ) → (refusal b q room).code ≡ 1 → room < 16387
short-only b q room e = elim (dec_lt room 16387) [ yes s ↦ s | no s ↦ absurd (long (omega arith) (book-coded b)) ]
  where
    good : 16387 ≤ room → (book_verdict b).code ≡ 0 → Coded 12 (query_verdict b q).code → ⊥
    good l z (inl w) = omega (arith, e, ap (λ (r : Admitted). r.code) (query_decides b q room l z), w)
    good l z (inr k) = omega (arith, e, ap (λ (r : Admitted). r.code) (query_decides b q room l z), k.0)

    long : 16387 ≤ room → Coded 2 (book_verdict b).code → ⊥
    long l (inl z) = good l z (query-coded b q z)
    long l (inr k) = omega (arith, e, ap (λ (r : Admitted). r.code) (book_decides b q room l (λ z. omega (arith, k.0))), k.0)

-- what is refused has a code of the list
pub refusal-listed : (b q : List ℕ) (room : ℕ) → ((refusal b q room).code ≡ 0) ⊎ Refused (refusal b q room).code
refusal-listed b q room = elim (dec_lt room 16387) [ yes s ↦ rw (area-short b q room s) (inr area) | no s ↦ long (omega arith) (book-coded b) ]
  where
    good : 16387 ≤ room → (book_verdict b).code ≡ 0 → Coded 12 (query_verdict b q).code → ((refusal b q room).code ≡ 0) ⊎ Refused (refusal b q room).code
    good l z (inl w) = rw (query_decides b q room l z) (inl w)
    good l z (inr k) = rw (query_decides b q room l z) (inr (query k.0 k.1))

    long : 16387 ≤ room → Coded 2 (book_verdict b).code → ((refusal b q room).code ≡ 0) ⊎ Refused (refusal b q room).code
    long l (inl z) = good l z (query-coded b q z)
    long l (inr k) = rw (book_decides b q room l (λ z. omega (arith, k.0))) (inr (book k.0 k.1))

not-zero : {c : ℕ} → Refused c → c ≡ 0 → ⊥
not-zero area e = omega arith
not-zero (book l h) e = omega arith
not-zero (query l h) e = omega arith

refused-low : {c : ℕ} → Refused c → c ≤ 17
refused-low area = omega arith
refused-low (book l h) = omega arith
refused-low (query l h) = omega arith

-- an entry's codes are no higher than its own
pub listed-up-to : {Own : ℕ → Type 0} {c : ℕ} (most : ℕ) → 17 ≤ most → ((c : ℕ) → Own c → c ≤ most) → Listed Own c → c ≤ most
listed-up-to most l own (refused r) = omega (arith, refused-low r)
listed-up-to most l own (taken o) = own _ o

stuck-listed : (P : Book) (g : Goal) → StepCode (stuck_code P g)
stuck-listed P g = elim (knows? P g) [ yes k ↦ rw (stuck-known P g k) step_22 | no n ↦ rw (stuck-unknown P g n) step_26 ]

single-listed : (P : Book) (g : Goal) (s : Step) → StepCode (single (stuck_code P g) s).code
single-listed P g solved = step_20
single-listed P g stuck = stuck-listed P g
single-listed P g (to k h) = go (fits h)
  where
    go : (b : Bool) → StepCode (if_fits b k h).code
    go true = step_25
    go false = step_24

from_20 : {c : ℕ} → StepCode c → 20 ≤ c
from_20 step_20 = omega arith
from_20 step_22 = omega arith
from_20 step_24 = omega arith
from_20 step_25 = omega arith
from_20 step_26 = omega arith

module _ (b q : List ℕ) (room : List ℕ) where
  pub step-listed : Listed StepCode (step_answer b q room).code
  step-listed = elim (refusal-listed b q (length room)) [
    | inl z ↦ rw (Stepping.answer-taken b q room z) (taken (single-listed (book_of b) (goal_of q) (next_from 0 (book_of b) (goal_of q))))
    | inr r ↦ rw (Stepping.answer-refused b q room (not-zero r)) (refused r)
  ]

  -- what is taken has no refusal's code
  pub step-high : (refusal b q (length room)).code ≡ 0 → 20 ≤ (step_answer b q room).code
  step-high z = rw (Stepping.answer-taken b q room z) (from_20 (single-listed (book_of b) (goal_of q) (next_from 0 (book_of b) (goal_of q))))

module _ (b q : List ℕ) (area space : List ℕ) (budget : ℕ) where
  pub run-listed : Listed RunCode (run_answer b q budget area space).code
  run-listed = elim (refusal-listed b q (room area space)) [
    | inl z ↦ rw (Running.answer-taken b q budget area space z) (taken (run-codes (book_of b) budget (goal_of q)))
    | inr r ↦ rw (Running.answer-refused b q budget area space (not-zero r)) (refused r)
  ]

  pub run-high : (refusal b q (room area space)).code ≡ 0 → 20 ≤ (run_answer b q budget area space).code
  run-high z = rw (Running.answer-taken b q budget area space z) (run-code-between (run-codes (book_of b) budget (goal_of q))).0

-- The two calls of a single step.

picked-listed : (P : Book) (g : Goal) (s : Step) → PickCode (picked (stuck_code P g) s).code
picked-listed P g solved = pick_20
picked-listed P g stuck = elim (knows? P g) [ yes k ↦ rw (stuck-known P g k) pick_22 | no n ↦ rw (stuck-unknown P g n) pick_26 ]
picked-listed P g (to k h) = pick_25

applied-listed : (k : ℕ) (s : Step) → ApplyCode (applied k s).code
applied-listed k solved = apply_20
applied-listed k stuck = apply_33
applied-listed k (to j h) = go (fits h)
  where
    go : (b : Bool) → ApplyCode (if_fits b k h).code
    go true = apply_25
    go false = apply_24

apply-codes : (P : Book) (g : Goal) (k : ℕ) → ApplyCode (apply_by P g k).code
apply-codes P [] k = apply_20
apply-codes P (f ∷ g) k = elim (dec_lt k (length P)) [
  | yes l ↦ rw (lt-ltb k (length P) l) (applied-listed k (next (clause_at P k ∷ []) (f ∷ g)))
  | no n ↦ rw (le-ltb k (length P) (omega arith)) apply_32
]

pub pick-code-between : {c : ℕ} → PickCode c → (20 ≤ c) × (c ≤ 26)
pick-code-between pick_20 = (omega arith, omega arith)
pick-code-between pick_22 = (omega arith, omega arith)
pick-code-between pick_26 = (omega arith, omega arith)
pick-code-between pick_25 = (omega arith, omega arith)

pub apply-code-between : {c : ℕ} → ApplyCode c → (20 ≤ c) × (c ≤ 33)
apply-code-between apply_20 = (omega arith, omega arith)
apply-code-between apply_32 = (omega arith, omega arith)
apply-code-between apply_33 = (omega arith, omega arith)
apply-code-between apply_24 = (omega arith, omega arith)
apply-code-between apply_25 = (omega arith, omega arith)

module _ (b q : List ℕ) where
  pub pick-listed : Listed PickCode (pick_answer b q).code
  pick-listed = elim (refusal-listed b q 16387) [
    | inl z ↦ rw (pick-taken b q z) (taken (picked-listed (book_of b) (goal_of q) (next (book_of b) (goal_of q))))
    | inr r ↦ rw (pick-refused b q (not-zero r)) (refused r)
  ]

  pub pick-high : (refusal b q 16387).code ≡ 0 → 20 ≤ (pick_answer b q).code
  pick-high z = rw (pick-taken b q z) (pick-code-between (picked-listed (book_of b) (goal_of q) (next (book_of b) (goal_of q)))).0

  -- it is lent no area that could be too short
  pub pick_never_1 : (pick_answer b q).code ≡ 1 → ⊥
  pick_never_1 e = elim (refusal-listed b q 16387) [
    | inl z ↦ omega (arith, pick-high z, e)
    | inr r ↦ omega (arith, short-only b q 16387 (rw (pick-refused b q (not-zero r)) at e))
  ]

module _ (b q : List ℕ) (clause : ℕ) (room : List ℕ) where
  pub apply-listed : Listed ApplyCode (apply_answer b q clause room).code
  apply-listed = elim (refusal-listed b q (length room)) [
    | inl z ↦ rw (Stepping.single-taken b q room z (stepped no_figures (apply_by (book_of b) (goal_of q) clause))) (taken (apply-codes (book_of b) (goal_of q) clause))
    | inr r ↦ rw (Stepping.single-refused b q room (not-zero r) (stepped no_figures (apply_by (book_of b) (goal_of q) clause))) (refused r)
  ]

  pub apply-high : (refusal b q (length room)).code ≡ 0 → 20 ≤ (apply_answer b q clause room).code
  apply-high z = rw (Stepping.single-taken b q room z (stepped no_figures (apply_by (book_of b) (goal_of q) clause))) (apply-code-between (apply-codes (book_of b) (goal_of q) clause)).0
