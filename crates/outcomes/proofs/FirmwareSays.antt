-- What the number for C says, in plain sums: "outcome in the lowest eight bits; the next 24 bits hold the place for codes 1 to 19 and the bytes written otherwise; the top
-- 32 hold the steps."
use Rattle.std.specs.Prelude.{ℕ, ◌+◌, ◌*◌, ◌%◌, ◌/◌, ◌^◌, ◌≤◌, ◌<◌, ◌≡◌, List}
use Rattle.std.proofs.Common.{arith, lt-ltb, le-ltb, eq-eqb, ne_eqb, ap}
use Rattle.terms.specs.When.{◌⇒◌∣◌}
use Rattle.format.specs.Format.{Bytes}
use Rattle.outcomes.specs.declared.Answer.{Answer}
use Rattle.outcomes.specs.declared.Picked.{Picked}
use Rattle.outcomes.specs.declared.Stepped.{Stepped}
use Rattle.outcomes.specs.Outcome.{run_answer, pick_answer, apply_answer}
use Rattle.outcomes.specs.Firmware.{field, number, code-back, field_back, steps_back, field-narrow}
use Rattle.outcomes.proofs.Figures.{answer-code, run-narrow}
use Rattle.outcomes.proofs.Zeros.{run-refuses}
use Rattle.outcomes.specs.CallNumbers.{pick_top, pick_number, apply_field, apply_number, apply-field-narrow}
use Rattle.outcomes.proofs.CallFigures.{pick-clause, pick-place, pick-code, pick-narrow, apply-narrow, apply_code, apply-refuses}

module _ (a : Answer) where
  field-place : a.code < 20 → field a ≡ a.place
  field-place l = ap (λ b. b ⇒ a.place ∣ a.bytes) (lt-ltb a.code 20 l)

  field-bytes : 20 ≤ a.code → field a ≡ a.bytes
  field-bytes h = ap (λ b. b ⇒ a.place ∣ a.bytes) (le-ltb a.code 20 h)

module _ (book query : List ℕ) (budget : ℕ) (area space : List ℕ) where
  abbrev answer : Answer
  answer = run_answer book query budget area space

  -- a refused run: its code and its place
  pub number-refused : answer.code < 20 → number answer ≡ answer.code + 256 * answer.place
  number-refused l = omega (arith, field-place answer l, (run-refuses book query budget area space l).0)

  -- any other: its code, its bytes and its steps
  pub number-taken : 20 ≤ answer.code → number answer ≡ answer.code + 256 * answer.bytes + 4294967296 * answer.steps
  number-taken h = omega (arith, field-bytes answer h)

  -- the parts come back
  pub number-parts : Bytes query → (number answer % 256 ≡ answer.code) × (number answer / 256 % 2 ^ 24 ≡ field answer) × (number answer / 2 ^ 32 ≡ answer.steps)
  number-parts bytes =
      let c : answer.code < 256 = omega (arith, answer-code book query budget area space) in
      let f = field-narrow answer (run-narrow book query budget area space bytes) in
      (code-back answer.code (field answer) answer.steps c f, field_back answer.code (field answer) answer.steps c f, steps_back answer.code (field answer) answer.steps c f)

-- The pick: the place where it is refused, with 22 the two figures, and the clause number otherwise.
module _ (book query : List ℕ) where
  abbrev picked : Picked
  picked = pick_answer book query

  top-clause : (picked.code ≡ 22 → ⊥) → pick_top picked ≡ picked.clause
  top-clause n = ap (λ b. b ⇒ picked.furthest + 2 ^ 16 * picked.argument ∣ picked.clause) (ne_eqb picked.code 22 n)

  top-figures : picked.code ≡ 22 → pick_top picked ≡ picked.furthest + 2 ^ 16 * picked.argument
  top-figures e = ap (λ b. b ⇒ picked.furthest + 2 ^ 16 * picked.argument ∣ picked.clause) (eq-eqb picked.code 22 e)

  pub pick-number-refused : picked.code < 20 → pick_number picked ≡ picked.code + 256 * picked.place
  pick-number-refused l = omega (arith, top-clause (λ e. omega (arith, l, e)), pick-clause book query (λ e. omega (arith, l, e)))

  pub pick-number-taken : 20 ≤ picked.code → (picked.code ≡ 22 → ⊥) → pick_number picked ≡ picked.code + 4294967296 * picked.clause
  pick-number-taken h n = omega (arith, top-clause n, pick-place book query h)

  pub pick-number-stuck : picked.code ≡ 22 → pick_number picked ≡ 22 + 4294967296 * picked.furthest + 281474976710656 * picked.argument
  pick-number-stuck e = omega (arith, e, top-figures e, pick-place book query (omega (arith, e)))

  pub pick-number-parts : Bytes book → Bytes query → (pick_number picked % 256 ≡ picked.code) × (pick_number picked / 256 % 2 ^ 24 ≡ picked.place) × (pick_number picked / 2 ^ 32 ≡ pick_top picked)
  pick-number-parts book-bytes query-bytes =
      let c : picked.code < 256 = omega (arith, pick-code book query) in
      let f = (pick-narrow book query book-bytes query-bytes).place in
      (code-back picked.code picked.place (pick_top picked) c f, field_back picked.code picked.place (pick_top picked) c f, steps_back picked.code picked.place (pick_top picked) c f)

  -- and with 22 both figures, of these
  pub pick-figures-parts : Bytes book → Bytes query → picked.code ≡ 22 → (pick_top picked % 2 ^ 16 ≡ picked.furthest) × (pick_top picked / 2 ^ 16 ≡ picked.argument)
  pick-figures-parts book-bytes query-bytes e =
      let f = (pick-narrow book query book-bytes query-bytes).furthest in
      (omega (arith, f, top-figures e), omega (arith, f, top-figures e))

-- The apply call: the place where its input is refused, nothing beside the code where it is refused otherwise, and the bytes and the clause number where it is taken.
module _ (book query : List ℕ) (clause : ℕ) (area : List ℕ) where
  abbrev applied : Stepped
  applied = apply_answer book query clause area

  apply-field-bytes : 20 ≤ applied.code → apply_field applied ≡ applied.bytes
  apply-field-bytes h = ap (λ b. b ⇒ applied.place ∣ applied.bytes) (le-ltb applied.code 20 h)

  pub apply-number-refused : applied.code < 20 → apply_number applied ≡ applied.code + 256 * applied.place
  apply-number-refused l =
      let e : apply_field applied ≡ applied.place = ap (λ b. b ⇒ applied.place ∣ applied.bytes) (lt-ltb applied.code 20 l) in
      omega (arith, e, (apply-refuses book query clause area (λ e. omega (arith, l, e))).2)

  pub apply-number-not-taken : 20 ≤ applied.code → (applied.code ≡ 25 → ⊥) → apply_number applied ≡ applied.code
  apply-number-not-taken h n = let z = apply-refuses book query clause area n in omega (arith, apply-field-bytes h, z.1, z.2)

  pub apply-number-taken : 20 ≤ applied.code → apply_number applied ≡ applied.code + 256 * applied.bytes + 4294967296 * applied.clause
  apply-number-taken h = omega (arith, apply-field-bytes h)

  pub apply-number-parts : (apply_number applied % 256 ≡ applied.code) × (apply_number applied / 256 % 2 ^ 24 ≡ apply_field applied) × (apply_number applied / 2 ^ 32 ≡ applied.clause)
  apply-number-parts =
      let c : applied.code < 256 = omega (arith, apply_code book query clause area) in
      let f = apply-field-narrow applied (apply-narrow book query clause area) in
      (code-back applied.code (apply_field applied) applied.clause c f, field_back applied.code (apply_field applied) applied.clause c f, steps_back applied.code (apply_field applied) applied.clause c f)
