-- How big the figures of the flat checks are: each part has room in the number for C.
use Rattle.std.specs.Prelude.{ℕ, ◌^◌, ◌≤◌, ◌<◌, ◌≡◌, List, [], ◌∷◌, length}
use native.Mathlib.Omega.{arith}
use Rattle.std.proofs.Math.Decide.{ℕ_discrete}
use Rattle.std.proofs.Common.{eq-eqb, ne_eqb, sym as inv, ap, ◌∙◌}
use Rattle.search.specs.Room.{nodes}
use Rattle.format.specs.declared.Check.{Check}
use Rattle.format.specs.declared.Form.TheVariants.{Book}
use Rattle.format.specs.declared.Record.{Record}
use Rattle.format.specs.declared.Record.TheVariants.{Variable, Constant, Compound, Formula, Clause, Goal, End}
use Rattle.format.specs.Format.{encode, book_records, Bytes}
use Rattle.format.specs.Arities.{uses_of}
use Rattle.format.specs.ArityLaws.{book-uses}
use Rattle.format.specs.Decode.{book_of}
use Rattle.format.proofs.Meaning.{one_none, book-read, query-read}
use Rattle.format.proofs.Decoding.{book_of-good}
use Rattle.flatness.proofs.CountLaws.{predicates_few, constants_few}
use Rattle.flatness.specs.Marks.{numbers_of}
use Rattle.flatness.specs.Profile.{book_flat, query_flat, counted, flat_book_of}
use Rattle.flatness.proofs.Refusals.{book-flat-good, flat-taken, query-flat-book, query-flat-is, query-flat-count}
use Rattle.flatness.proofs.Marking.{book-numbers_2}
use Rattle.flatly.specs.Outcome.{BookNarrow, QueryNarrow}
use Rattle.flatly.specs.Ways.{book-flat-place, query-flat-place}

-- a record has at least a byte, and no two uses or constants

uses-short : (rs : List Record) → length (uses_of rs) ≤ length (encode rs)
uses-short [] = omega arith
uses-short (Variable v ∷ rs) = omega (arith, uses-short rs)
uses-short (Constant c ∷ rs) = omega (arith, uses-short rs)
uses-short (Compound f n ∷ rs) = omega (arith, uses-short rs)
uses-short (Formula p n ∷ rs) = omega (arith, uses-short rs)
uses-short (Clause n ∷ rs) = omega (arith, uses-short rs)
uses-short (Goal n ∷ rs) = omega (arith, uses-short rs)
uses-short (End ∷ rs) = omega (arith, uses-short rs)

constants-short : (rs : List Record) → length (numbers_of 2 rs) ≤ length (encode rs)
constants-short [] = omega arith
constants-short (Variable v ∷ rs) = omega (arith, constants-short rs)
constants-short (Constant c ∷ rs) = omega (arith, constants-short rs)
constants-short (Compound f n ∷ rs) = omega (arith, constants-short rs)
constants-short (Formula p n ∷ rs) = omega (arith, constants-short rs)
constants-short (Clause n ∷ rs) = omega (arith, constants-short rs)
constants-short (Goal n ∷ rs) = omega (arith, constants-short rs)
constants-short (End ∷ rs) = omega (arith, constants-short rs)

module _ (s : List ℕ) (bytes : Bytes s) where
  counted-narrow : (book_flat s).code ≡ 0 → BookNarrow (counted (book_of s) (book_flat s))
  counted-narrow z =
      let v = book-flat-good s bytes z in
      let t = flat-taken Book [] one_none s bytes z in
      let r = book-read [] one_none s bytes v in
      let (g, e) = book_of-good s bytes v in
      let n : (book_flat s).count ≡ length r.0 = ap (λ (c : Check). c.count) (t.same ∙ r.4) in
      record {
        place = omega (arith, book-flat-place s);
        clauses = omega (arith, n, r.1.few);
        predicates = omega (arith, predicates_few (book_of s), ap length (book-uses (book_of s)), uses-short (book_records (book_of s)), g.short);
        constants = omega (arith, constants_few (book_of s), ap length (book-numbers_2 (book_of s)), constants-short (book_records (book_of s)), g.short);
      }

  pub book-narrow : BookNarrow (flat_book_of s)
  unfolding flat_book_of
  book-narrow = elim (ℕ_discrete (book_flat s).code 0) [
    | yes z ↦ simp (eq-eqb (book_flat s).code 0 z) (counted-narrow z)
    | no n ↦ simp (ne_eqb (book_flat s).code 0 n) (record { place = omega (arith, book-flat-place s); clauses = omega arith; predicates = omega arith; constants = omega arith })
  ]

module _ (book query : List ℕ) (book-bytes : Bytes book) (query-bytes : Bytes query) where
  pub query-narrow : QueryNarrow (query_flat book query)
  query-narrow = record { place = omega (arith, query-flat-place book query book-bytes); count = few }
    where
      few : (query_flat book query).count < 2 ^ 24
      few = elim (ℕ_discrete (query_flat book query).code 0) [
        | yes z ↦ (
            let e = query-flat-is book query book-bytes (query-flat-book book query z) query-bytes z in
            let r = query-read book query query-bytes (inv (ap (λ (c : Check). c.code) e) ∙ z) in
            let n : (query_flat book query).count ≡ nodes r.0 = ap (λ (c : Check). c.count) (e ∙ r.4) in
            omega (arith, n, r.1.fitting.size))
        | no n ↦ omega (arith, query-flat-count book query book-bytes query-bytes n)
      ]
