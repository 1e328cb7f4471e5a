-- The reader tests a record in document 01's order, "kind, body cut, range, size, variable number", and then the arity: the first test that fails, or none.
use Prim.Native.Nat.{ℕ, ◌-◌, ◌≤◌, ◌<◌}
use borrow.Author.Tests.{leb-true, leb-false, le-leb, lt-leb}
use mathlib.Core.Path.{◌≡◌}
use mathlib.Core.Bool.{true, false}
use mathlib.Core.List.{List}
use lib.ListN.{length, get_or}
use lib.Dec.{leb}
use Rattle.terms.specs.Cases.{cases}
use Rattle.format.specs.declared.State.{State}
use Rattle.format.specs.declared.Form.{Form}
use Rattle.format.specs.declared.Record.{Record}
use Rattle.format.specs.declared.Fault.TheVariants.{Kind, Cut, Range, Size, Number, Arity}
use Rattle.std.specs.Prelude.{Result, Ok, Err}
use Rattle.format.specs.declared.Fault.{Fault}
use Rattle.format.specs.Reading.{allowed, body_length, record_at, in_range, is_in_size, is_in_order, after, judge_record, judge}
use Rattle.format.specs.Arities.{Memory, keeps}

-- the tests of a record that is whole
pub data Tested (form : Form) (state : State) (m : Memory) (item : Record) : Result State Fault → Type 0 where
  range_failed : in_range item ≡ false → Tested form state m item (Err Range)
  size_failed : in_range item ≡ true → is_in_size form state item ≡ false → Tested form state m item (Err Size)
  number_failed : in_range item ≡ true → is_in_size form state item ≡ true → is_in_order state item ≡ false → Tested form state m item (Err Number)
  arity_failed : in_range item ≡ true → is_in_size form state item ≡ true → is_in_order state item ≡ true → keeps m item ≡ false → Tested form state m item (Err Arity)
  passed : in_range item ≡ true → is_in_size form state item ≡ true → is_in_order state item ≡ true → keeps m item ≡ true → Tested form state m item (Ok (after state item))

module _ (form : Form) (state : State) (m : Memory) (item : Record) where
  tested-is : {j : Result State Fault} → Tested form state m item j → judge_record form state m item ≡ j
  unfolding judge_record
  tested-is (range_failed r) = simp r
  tested-is (size_failed r s) = simp (r, s)
  tested-is (number_failed r s o) = simp (r, s, o)
  tested-is (arity_failed r s o k) = simp (r, s, o, k)
  tested-is (passed r s o k) = simp (r, s, o, k)

  tested : Tested form state m item (judge_record form state m item)
  tested =
      cases (in_range item)
      (λ r. cases (is_in_size form state item)
      (λ s. cases (is_in_order state item) (λ o. cases (keeps m item) (λ k. by (passed r s o k)) (λ k. by (arity_failed r s o k))) (λ o. by (number_failed r s o)))
      (λ s. by (size_failed r s)))
      (λ r. by (range_failed r))
    where
      by : {j : Result State Fault} → Tested form state m item j → Tested form state m item (judge_record form state m item)
      by t = rw (tested-is t) t

-- the tests of what stands at a place
pub data Looked (form : Form) (state : State) (m : Memory) (s : List ℕ) (at : ℕ) : Result State Fault → Type 0 where
  kind_failed : allowed form state (get_or s at 0) ≡ false → Looked form state m s at (Err Kind)
  cut_failed : allowed form state (get_or s at 0) ≡ true → length s - at ≤ body_length (get_or s at 0) → Looked form state m s at (Err Cut)
  whole_record : {j : Result State Fault} → allowed form state (get_or s at 0) ≡ true → body_length (get_or s at 0) < length s - at → Tested form state m (record_at s at (get_or s at 0)) j →
      Looked form state m s at j

module _ (form : Form) (state : State) (m : Memory) (s : List ℕ) (at : ℕ) where
  pub looked-is : {j : Result State Fault} → Looked form state m s at j → judge form state m s at ≡ j
  unfolding judge
  looked-is (kind_failed k) = simp k
  looked-is (cut_failed k c) = simp (k, le-leb _ _ c)
  looked-is (whole_record k c t) = simp (k, lt-leb _ _ c, tested-is form state m (record_at s at (get_or s at 0)) t)

  pub looked : Looked form state m s at (judge form state m s at)
  looked =
      cases (allowed form state (get_or s at 0))
      (λ k. cases (leb (length s - at) (body_length (get_or s at 0)))
      (λ c. by (cut_failed k (leb-true _ _ c)))
      (λ c. by (whole_record k (leb-false _ _ c) (tested form state m (record_at s at (get_or s at 0))))))
      (λ k. by (kind_failed k))
    where
      by : {j : Result State Fault} → Looked form state m s at j → Looked form state m s at (judge form state m s at)
      by t = rw (looked-is t) t
