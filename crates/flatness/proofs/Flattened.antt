-- Each answer of `flat_of`, from what its tests found; and what the entries make of it.
use Prim.Native.Nat.{ℕ, ◌+◌, ◌≤◌, ◌<◌}
use borrow.Author.Tests.{lt-ltb, le-ltb, eq-eqb, ne_eqb}
use mathlib.Core.Path.{◌≡◌, sym as inv, ap, subst, ◌∙◌}
use mathlib.Core.List.{List}
use lib.ListN.{length}
use Rattle.format.specs.declared.Check.{Check}
use Rattle.format.specs.declared.Form.TheVariants.{Book, Query}
use Rattle.format.specs.declared.Record.{Record}
use Rattle.format.specs.Reading.{verdict, met, book_verdict, query_verdict}
use Rattle.format.specs.Format.{encode, book_records, Bytes}
use Rattle.format.specs.Arities.{nothing_met, book_uses}
use Rattle.format.specs.ArityLaws.{book-uses}
use Rattle.format.specs.Decode.{book_of}
use Rattle.format.proofs.Meaning.{query-verdict}
use Rattle.format.proofs.Decoding.{book_of-good, book_of-one}
use Rattle.flatness.specs.Profile.{compound_from, allowed_up_to, compound_at, flat_check_of, book_flat, query_flat, uncounted, flat_book_of}
use Rattle.flatness.specs.Marks.{Image, numbers_of, fresh}
use Rattle.flatness.specs.Counts.{constants_in, book_predicates, book_constants}
use Rattle.flatness.proofs.CountLaws.{count-one, predicates-counted, constants-counted, numbers, count-by-number}
use Rattle.flatness.proofs.Marking.{count-fresh, numbers_4, book-numbers_2}
use Rattle.flatness.proofs.Places.{verdict-within}
use Rattle.flatness.proofs.Refusals.{book-flat-good}

pub other-end : (base : ℕ) (plain : Check) (size : ℕ) → (plain.code ≡ 0 → ⊥) → (plain.code ≡ base + 2 → ⊥) → allowed_up_to base plain size ≡ plain.place + 1
other-end base plain size n e = simp (ne_eqb plain.code 0 n, ne_eqb plain.code (base + 2) e)

module _ (base limit : ℕ) (plain : Check) (s : List ℕ) where
  pub of-long : limit < length s → plain ≡ flat_check_of base limit plain s
  unfolding flat_check_of
  of-long l = simp (lt-ltb limit (length s) l)

  module _ (short : length s ≤ limit) (end place : ℕ) (e : end ≡ allowed_up_to base plain (length s)) (p : place ≡ compound_from (length s) s 0 end) where
    pub of-found : place < end → compound_at base place ≡ flat_check_of base limit plain s
    unfolding flat_check_of
    of-found l = simp (le-ltb limit (length s) short, inv e, inv p, lt-ltb place end l)

    pub of_none : end ≤ place → plain ≡ flat_check_of base limit plain s
    unfolding flat_check_of
    of_none l = simp (le-ltb limit (length s) short, inv e, inv p, le-ltb place end l)

-- the query's check, by its book's
pub by-book : (book s : List ℕ) (r : Check) → r ≡ book_flat book → (r.code ≡ 0 → ⊥) → r ≡ query_flat book s
unfolding query_flat
by-book book s r e n = e ∙ simp (ne_eqb (book_flat book).code 0 (λ z. n (ap (λ (c : Check). c.code) e ∙ z)))

module _ (book s : List ℕ) (bytes : Bytes book) (found : Check) (is : found ≡ book_flat book) (z : found.code ≡ 0) where
  good : (book_flat book).code ≡ 0
  good = inv (ap (λ (c : Check). c.code) is) ∙ z

  plain_query : (q : Check) → q ≡ query_verdict book s → q ≡ verdict Query (met book) s
  plain_query q e = e ∙ query-verdict book s (book-flat-good book bytes good)

  pub query-within : (q : Check) → q ≡ query_verdict book s → length s ≤ 16387 → allowed_up_to 10 q (length s) ≤ length s
  query-within q e l = rw (plain_query q e) (verdict-within Query s (met book) l)

  pub by-query : (q r : Check) → q ≡ query_verdict book s → r ≡ flat_check_of 10 16387 q s → r ≡ query_flat book s
  unfolding query_flat
  by-query q r e f = f ∙ ap (λ (c : Check). flat_check_of 10 16387 c s) (plain_query q e) ∙ simp (eq-eqb (book_flat book).code 0 good)

pub book-within : (book : List ℕ) (r : Check) → r ≡ book_verdict book → length book ≤ 32768 → allowed_up_to 0 r (length book) ≤ length book
book-within book r e l = rw e (verdict-within Book book nothing_met l)

-- What is counted in a good flat book.

module _ (s : List ℕ) (bytes : Bytes s) (found : Check) (is : found ≡ book_flat s) (z : found.code ≡ 0) where
  here : (book_verdict s).code ≡ 0
  here = book-flat-good s bytes (inv (ap (λ (c : Check). c.code) is) ∙ z)

  image : s ≡ encode (book_records (book_of s))
  image = inv (book_of-good s bytes here).1

  pub image_of : Image s
  image_of = record { records = book_records (book_of s); bytes = image; short = subst (λ (l : List ℕ). length l ≤ 32768) (book_of-good s bytes here).1 (book_of-good s bytes here).0.short }

  -- what `count` says of each kind
  abbrev Says : ℕ → ℕ → Type 0
  Says kind n = (rs : List Record) → s ≡ encode rs → n ≡ fresh nothing_met (numbers_of kind rs)

  constants-said : (n : ℕ) → Says 2 n → n ≡ book_constants (book_of s)
  constants-said n f =
      f (book_records (book_of s)) image ∙ ap (fresh nothing_met) (book-numbers_2 (book_of s)) ∙ count-one (count-fresh (constants_in (book_of s))) (constants-counted (book_of s))

  predicates-said : (n : ℕ) → Says 4 n → n ≡ book_predicates (book_of s)
  predicates-said n f =
      let us = book_uses (book_of s) in
      f (book_records (book_of s)) image ∙ ap (fresh nothing_met) (numbers_4 (book_records (book_of s)) ∙ ap numbers (book-uses (book_of s)))
      ∙ count-one (count-fresh (numbers us)) (count-by-number us (book_of-one s bytes here) (predicates-counted (book_of s)))

  pub counted_is : (p n : ℕ) → Says 4 p → Says 2 n → record { code = found.code; place = found.place; clauses = found.count; predicates = p; constants = n } ≡ flat_book_of s
  unfolding flat_book_of
  counted_is p n f g =
      simp (eq-eqb (book_flat s).code 0 (inv (ap (λ (c : Check). c.code) is) ∙ z))
      (λ i. record { code = (is i).code; place = (is i).place; clauses = (is i).count; predicates = predicates-said p f i; constants = constants-said n g i })

pub uncounted-is : (s : List ℕ) (found : Check) → found ≡ book_flat s → (found.code ≡ 0 → ⊥) → uncounted found ≡ flat_book_of s
unfolding flat_book_of
uncounted-is s found is n = simp (ne_eqb (book_flat s).code 0 (λ z. n (ap (λ (c : Check). c.code) is ∙ z))) (ap uncounted is)
