-- How big the figures of reading are, and that the parts of the number are theirs.
use Rattle.std.specs.Prelude.{ℕ, ◌+◌, ◌*◌, ◌/◌, ◌%◌, ◌^◌, ◌≤◌, ◌<◌, ◌≡◌, List, eqb, length}
use Rattle.std.proofs.Common.{subst, arith, eq-eqb}
use Rattle.std.proofs.Math.Decide.{dec_lt}
use Rattle.terms.specs.Cases.{cases}
use Rattle.grammar.specs.GoodLaws.{reading-good}
use Rattle.reading.proofs.Refusal.{long_text}
use Rattle.readouts.specs.declared.ReadText.{ReadText}
use Rattle.readouts.specs.Outcome.{Reads, refuses, two_arities, no_room, reads, read_answer}
use Rattle.readouts.proofs.OutcomeLaws.{outcome-reads, read_once}
use Rattle.readouts.proofs.Good.{code-low, refusal-coded, refusal-low, formula-low}
use Rattle.textnumbers.specs.Numbers.{read_field, read_number, ReadNarrow}

module _ (text books lists : List ℕ) where
  of-short : length text ≤ 65536 → {r : ReadText} {b n : List ℕ} → Reads text books lists r b n → ReadNarrow r
  of-short h (refuses f) = record { code = code-low (refusal-coded f); place = omega (arith, refusal-low f, h); book = omega arith }
  of-short h (two_arities r d f) = record { code = omega arith; place = omega (arith, formula-low f, h); book = omega arith }
  of-short h (no_room r o w) = record { code = omega arith; place = omega arith; book = omega arith }
  of-short h (reads r o w v) = record { code = omega arith; place = omega arith; book = omega (arith, (reading-good r).short) }

  pub read-narrow : ReadNarrow (read_answer text books lists)
  read-narrow = elim (dec_lt 65536 (length text)) [
    | yes h ↦ subst ReadNarrow (read_once text books lists (refuses (long_text h))).answer (record { code = omega arith; place = omega arith; book = omega arith })
    | no h ↦ of-short (omega arith) (outcome-reads text books lists)
  ]

module _ (r : ReadText) (n : ReadNarrow r) where
  field-narrow : read_field r < 2 ^ 24
  field-narrow = cases (eqb r.code 0) (λ z. rw z n.book) (λ z. rw z n.place)

  pub read-parts : (read_number r % 256 ≡ r.code) × (read_number r / 256 % 2 ^ 24 ≡ read_field r) × (read_number r / 2 ^ 32 ≡ r.names)
  read-parts = (omega (arith, n.code, field-narrow), omega (arith, n.code, field-narrow), omega (arith, n.code, field-narrow))

  pub number_read : r.code ≡ 0 → read_number r ≡ 256 * r.book + 2 ^ 32 * r.names
  number_read z = rw (eq-eqb r.code 0 z) (omega (arith, z))
