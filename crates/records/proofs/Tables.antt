-- The table of arities: what is written in it is what is remembered.
use Prim.Native.Nat.{ℕ, zero, suc, ◌+◌, ◌-◌, ◌≤◌, ◌<◌}
use native.Mathlib.Omega.{arith}
use borrow.Author.Tests.{eq-eqb, ne_eqb, eqb-true, eqb-false, leb-true}
use mathlib.Core.Path.{◌≡◌, refl, sym as inv, ap, ◌∙◌}
use mathlib.Core.Bool.{Bool, true, false, ◌||◌}
use mathlib.Core.List.{List}
use lib.ListN.{length, get_or, set, replicate}
use lib.Dec.{eqb}
use Rattle.terms.specs.Cases.{cases}
use Rattle.format.specs.declared.Check.{Check}
use Rattle.format.specs.declared.Form.TheVariants.{Book, Query}
use Rattle.format.specs.declared.Record.TheVariants.{Formula}
use Rattle.format.specs.Reading.{body_length, number_at, record_at, in_range, verdict, met_from, met, book_verdict, query_verdict}
use Rattle.format.specs.Arities.{Memory, nothing_met, meet, meets, recalled}
use Rattle.format.specs.ArityLaws.{recalled-set}

-- a number that was met, less one, is its arity
pub same_test : (met n : ℕ) → (met ≡ 0 → ⊥) → eqb (met - 1) n ≡ (eqb met 0 || eqb met (n + 1))
same_test met n h =
    cases (eqb met (n + 1))
    (λ e. let q = eqb-true met (n + 1) e in simp (ne_eqb met 0 h, e) (eq-eqb (met - 1) n (omega arith)))
    (λ e. let q = eqb-false met (n + 1) e in simp (ne_eqb met 0 h, e) (ne_eqb (met - 1) n (λ z. q (omega arith))))

-- the record at a place, by its kind
module _ (s : List ℕ) (at : ℕ) where
  pub formula_at : get_or s at 0 ≡ 4 → record_at s at (get_or s at 0) ≡ Formula (number_at s (at + 1)) (get_or s (at + 3) 0)
  unfolding record_at
  formula_at e = rw e refl

  pub body-four : get_or s at 0 ≡ 4 → at + body_length (get_or s at 0) < length s → at + 3 < length s
  unfolding body_length
  body-four e h = rw e at h

  pub other_at : (m : Memory) → (get_or s at 0 ≡ 4 → ⊥) → meets m (record_at s at (get_or s at 0)) ≡ m
  unfolding record_at
  other_at m h = by (eqb k 1) (eqb k 2) (eqb k 3) (eqb k 5) (eqb k 6) refl refl refl refl refl
    where
      k : ℕ
      k = get_or s at 0

      by : (a b c d e : Bool) → eqb k 1 ≡ a → eqb k 2 ≡ b → eqb k 3 ≡ c → eqb k 5 ≡ d → eqb k 6 ≡ e → meets m (record_at s at k) ≡ m
      by true b c d e p q r t u = simp p
      by false true c d e p q r t u = simp (p, q)
      by false false true d e p q r t u = simp (p, q, r)
      by false false false true e p q r t u = simp (p, q, r, ne_eqb k 4 h, t)
      by false false false false true p q r t u = simp (p, q, r, ne_eqb k 4 h, t, u)
      by false false false false false p q r t u = simp (p, q, r, ne_eqb k 4 h, t, u)

  pub arity-small : get_or s at 0 ≡ 4 → in_range (record_at s at (get_or s at 0)) ≡ true → get_or s (at + 3) 0 ≤ 8
  unfolding in_range
  arity-small e r = leb-true (get_or s (at + 3) 0) 8 (rw (formula_at e) at r)

  -- a formula's entry written
  pub entry-written : (table : List ℕ) (p : ℕ) → get_or s at 0 ≡ 4 → p ≡ number_at s (at + 1) → p < length table → recalled (set table p (get_or s (at + 3) 0 + 1)) ≡ meets (recalled table) (record_at s at (get_or s at 0))
  entry-written table p e q h = recalled-set table p (get_or s (at + 3) 0) h ∙ ap (λ (n : ℕ). meet (recalled table) n (get_or s (at + 3) 0)) q ∙ inv (ap (meets (recalled table)) (formula_at e))

-- a table of zeros remembers nothing
zeros-at : (k p : ℕ) → get_or (replicate {A = ℕ} k 0) p 0 ≡ 0
zeros-at zero p = refl
zeros-at (suc k) zero = refl
zeros-at (suc k) (suc p) = zeros-at k p

pub zeros-met : (k : ℕ) → recalled (replicate {A = ℕ} k 0) ≡ nothing_met
zeros-met k = λ i p. zeros-at k p i

pub zeros-verdict : (book : List ℕ) (k : ℕ) → verdict Book (recalled (replicate {A = ℕ} k 0)) book ≡ book_verdict book
zeros-verdict book k = ap (λ (m : Memory). verdict Book m book) (zeros-met k)

-- The query's check: with such a table, the book's and then the query's.
module _ (book s : List ℕ) (m : Memory) (none : m ≡ nothing_met) (r : Check) (is : r ≡ verdict Book m book) where
  same-book : r ≡ book_verdict book
  same-book = is ∙ ap (λ (x : Memory). verdict Book x book) none

  pub by-book : (r.code ≡ 0 → ⊥) → r ≡ query_verdict book s
  unfolding query_verdict
  by-book h = same-book ∙ simp (ne_eqb (book_verdict book).code 0 (λ z. h (ap (λ (c : Check). c.code) same-book ∙ z)))

  pub by-query : r.code ≡ 0 → (m' : Memory) → (r.code ≡ 0 → m' ≡ met_from (suc (length book)) book 0 m) → (q : Check) → q ≡ verdict Query m' s → q ≡ query_verdict book s
  unfolding query_verdict
  by-query z m' left q e =
      let same : m' ≡ met book = left z ∙ ap (met_from (suc (length book)) book 0) none in
      e ∙ ap (λ (x : Memory). verdict Query x s) same ∙ simp (eq-eqb (book_verdict book).code 0 (inv (ap (λ (c : Check). c.code) same-book) ∙ z))
