-- "Every book and query .. gets exactly one answer from a fixed list": the codes of the flat profile are the plain ones, and 8 and 18.
use Rattle.std.specs.Prelude.{ℕ, ◌+◌, ◌≤◌, ◌≡◌, refl, ◌⊎◌, List, length, ltb}
use Rattle.std.proofs.Common.{arith, ltb-true, ltb-false, eq-eqb, ap, subst, inl, inr}
use Rattle.std.proofs.Math.Decide.{ℕ_discrete, dec_lt}
use Rattle.terms.specs.Cases.{cases}
use Rattle.format.specs.declared.Check.{Check}
use Rattle.format.specs.declared.Form.TheVariants.{Query}
use Rattle.format.specs.Reading.{verdict, met, book_verdict}
use Rattle.format.specs.Format.{Bytes}
use Rattle.format.proofs.Meaning.{query-verdict}
use Rattle.format.proofs.Codes.{Coded, book-coded, query-coded}
use Rattle.flatness.specs.Profile.{compound_from, allowed_up_to, flat_check_of, book_flat, query_flat}
use Rattle.flatness.proofs.Flattened.{of-long, of-found, of_none}
use Rattle.flatness.proofs.Refusals.{book-flat-good, query-flat-refused}
use Rattle.outcomes.specs.Outcome.{room}
use Rattle.outcomes.proofs.Figures.{RunCode}
use Rattle.outcomes.proofs.Listed as Plain
use Rattle.outcomes.proofs.Listed.{Listed, StepCode, step-listed, run-listed}
use Rattle.flatly.specs.Outcome.{flat_refusal, flat_run_answer, flat_step_answer}
use Rattle.flatly.specs.Ways.{short-area, by_checks, run_taken, run-refused, step-taken, step-refused}

-- a refusal's
pub data FlatRefused : ℕ → Type 0 where
  area : FlatRefused 1
  book : {c : ℕ} → 2 ≤ c → c ≤ 8 → FlatRefused c
  query : {c : ℕ} → 12 ≤ c → c ≤ 18 → FlatRefused c

-- an entry's: a refusal's or its own
pub data FlatListed (Own : ℕ → Type 0) : ℕ → Type 0 where
  refused : {c : ℕ} → FlatRefused c → FlatListed Own c
  taken : {c : ℕ} → Own c → FlatListed Own c

-- the plain ones are among them
plain-refused : {c : ℕ} → Plain.Refused c → FlatRefused c
plain-refused Plain.area = area
plain-refused (Plain.book l h) = book l (omega arith)
plain-refused (Plain.query l h) = query l (omega arith)

plain-listed : {Own : ℕ → Type 0} {c : ℕ} → Listed Own c → FlatListed Own c
plain-listed (Plain.refused r) = refused (plain-refused r)
plain-listed (Plain.taken o) = taken o

-- what holds of the plain code and of the compound record's holds of a flat check's
flat-of-code : (base limit : ℕ) (plain : Check) (s : List ℕ) (Q : ℕ → Type 0) → Q plain.code → Q (base + 8) → Q (flat_check_of base limit plain s).code
flat-of-code base limit plain s Q p c = cases (ltb limit (length s))
    (λ t. rw (← of-long base limit plain s (ltb-true limit (length s) t)) p)
    (λ t.
    let short = ltb-false limit (length s) t in
    let end = allowed_up_to base plain (length s) in
    let place = compound_from (length s) s 0 end in
    cases (ltb place end)
    (λ u. rw (← of-found base limit plain s short end place refl refl (ltb-true place end u)) c)
    (λ u. rw (← of_none base limit plain s short end place refl refl (ltb-false place end u)) p))

-- good, or refused
abbrev Answered : ℕ → Type 0
Answered c = (c ≡ 0) ⊎ FlatRefused c

book-answered : (s : List ℕ) → Answered (book_flat s).code
book-answered s = flat-of-code 0 32768 (book_verdict s) s Answered (go (book-coded s)) (inr (book (omega arith) (omega arith)))
  where
    go : {c : ℕ} → Coded 2 c → Answered c
    go (inl z) = inl z
    go (inr k) = inr (book k.0 (omega (arith, k.1)))

query-answered : (b s : List ℕ) → Bytes b → (book_flat b).code ≡ 0 → Answered (query_flat b s).code
unfolding query_flat
query-answered b s bytes z =
    let v = book-flat-good b bytes z in
    simp (eq-eqb (book_flat b).code 0 z)
    (flat-of-code 10 16387 (verdict Query (met b) s) s Answered (subst Answered (ap (λ (c : Check). c.code) (query-verdict b s v)) (go (query-coded b s v))) (inr (query (omega arith) (omega arith))))
  where
    go : {c : ℕ} → Coded 12 c → Answered c
    go (inl z) = inl z
    go (inr k) = inr (query k.0 (omega (arith, k.1)))

module _ (b q : List ℕ) (bytes : Bytes b) where
  -- the checks' codes
  pub flat_checks_listed : Answered (book_flat b).code × Answered (query_flat b q).code
  flat_checks_listed = (book-answered b, elim (ℕ_discrete (book_flat b).code 0) [ yes z ↦ query-answered b q bytes z | no n ↦ rw (query-flat-refused b q n) (book-answered b) ])

  flat-refusal-listed : (room : ℕ) → Answered (flat_refusal b q room).code
  flat-refusal-listed room = elim (dec_lt room 16387) [ yes s ↦ rw (short-area b q room s) (inr area) | no s ↦ rw (by_checks b q room (omega arith)) flat_checks_listed.1 ]

  not-zero : {c : ℕ} → FlatRefused c → c ≡ 0 → ⊥
  not-zero area e = omega arith
  not-zero (book l h) e = omega arith
  not-zero (query l h) e = omega arith

  pub flat-step-listed : (space : List ℕ) → FlatListed StepCode (flat_step_answer b q space).code
  flat-step-listed space = elim (flat-refusal-listed (length space)) [
    | inl z ↦ rw (step-taken b q space z) (plain-listed (step-listed b q space))
    | inr r ↦ rw (step-refused b q space (not-zero r)) (refused r)
  ]

  pub flat-run-listed : (budget : ℕ) (space answer : List ℕ) → FlatListed RunCode (flat_run_answer b q budget space answer).code
  flat-run-listed budget space answer = elim (flat-refusal-listed (room space answer)) [
    | inl z ↦ rw (run_taken b q budget space answer z) (plain-listed (run-listed b q space answer budget))
    | inr r ↦ rw (run-refused b q budget space answer (not-zero r)) (refused r)
  ]
