-- The tests of a name list, one by one: what each says.
use Rattle.std.specs.Prelude.{ℕ, suc, ◌+◌, ◌≤◌, ◌<◌, ◌≡◌, refl, ◌⊎◌, Bool, true, false, List, [], ◌∷◌, ltb, length, get_or}
use Rattle.std.proofs.Common.{sym as inv, ap, inl, inr, arith}
use Rattle.std.proofs.Math.Decide.{dec_lt}
use borrow.Author.Tests.{ltb-false, le-ltb}
use Rattle.terms.specs.Cases.{cases}
use Rattle.terms.specs.When.{◌⇒◌∣◌}
use Rattle.grammar.specs.Byte.{small, goes_on, All, IsName}
use Rattle.grammar.specs.Names.{Sort, Constant, Compound, Predicate, kind}
use Rattle.namelist.specs.List.{Entry, Before, ToEach, Proper}
use Rattle.namelist.specs.Bytes.{go_on, is_name, length_at, name_at, rank, rank_at, past, entry_good}

pub no_test : {X : Type 0} → false ≡ true → X
no_test e = let z : ◌≡◌ {A = ℕ} 0 1 = cc in absurd (omega arith)

-- Tests one behind the other

pub failed : (t r : Bool) → (t ⇒ false ∣ r) ≡ true → t ≡ false
failed true r e = no_test e
failed false r e = refl

pub unfailed : (t r : Bool) → (t ⇒ false ∣ r) ≡ true → r ≡ true
unfailed true r e = no_test e
unfailed false r e = e

pub passed : (t r : Bool) → (t ⇒ r ∣ false) ≡ true → t ≡ true
passed true r e = refl
passed false r e = no_test e

pub behind : (t r : Bool) → (t ⇒ r ∣ false) ≡ true → r ≡ true
behind true r e = e
behind false r e = no_test e

-- Names

go-on-all : (w : List ℕ) → go_on w ≡ true → All goes_on w
go-on-all [] e = tt
go-on-all (b ∷ w) e = (passed (goes_on b) _ e, go-on-all w (behind (goes_on b) _ e))

all-go-on : (w : List ℕ) → All goes_on w → go_on w ≡ true
all-go-on [] h = refl
all-go-on (b ∷ w) h = rw h.0 (all-go-on w h.1)

pub name-means : (w : List ℕ) → is_name w ≡ true → IsName w
name-means [] e = no_test e
name-means (b ∷ w) e = (passed (small b) _ e, go-on-all w (behind (small b) _ e))

pub name_is : (w : List ℕ) → IsName w → is_name w ≡ true
name_is [] h = absurd h
name_is (b ∷ w) h = rw h.0 (all-go-on w h.1)

-- The entry at a place

pub record EntryGood (s : List ℕ) (at floor : ℕ) : Type 0 where
  pub whole : at + 4 ≤ length s
  pub low : 2 ≤ get_or s at 0
  pub high : get_or s at 0 ≤ 4
  pub above : floor ≤ rank_at s at
  pub short : length_at s at ≤ 32
  pub room : past s at ≤ length s
  pub spelt : is_name (name_at s at) ≡ true

module _ (s : List ℕ) (at floor : ℕ) where
  pub good-means : entry_good s at floor ≡ true → EntryGood s at floor
  unfolding entry_good
  good-means e =
      let e1 = unfailed (ltb (length s) (at + 4)) _ e in
      let e2 = unfailed (ltb (get_or s at 0) 2) _ e1 in
      let e3 = unfailed (ltb 4 (get_or s at 0)) _ e2 in
      let e4 = unfailed (ltb (rank_at s at) floor) _ e3 in
      let e5 = unfailed (ltb 32 (length_at s at)) _ e4 in
      record {
        whole = ltb-false (length s) (at + 4) (failed (ltb (length s) (at + 4)) _ e);
        low = ltb-false (get_or s at 0) 2 (failed (ltb (get_or s at 0) 2) _ e1);
        high = ltb-false 4 (get_or s at 0) (failed (ltb 4 (get_or s at 0)) _ e2);
        above = ltb-false (rank_at s at) floor (failed (ltb (rank_at s at) floor) _ e3);
        short = ltb-false 32 (length_at s at) (failed (ltb 32 (length_at s at)) _ e4);
        room = ltb-false (length s) (past s at) (failed (ltb (length s) (past s at)) _ e5);
        spelt = unfailed (ltb (length s) (past s at)) _ e5;
      }

  pub good_is : EntryGood s at floor → entry_good s at floor ≡ true
  unfolding entry_good
  good_is g =
      rw (le-ltb (length s) (at + 4) g.whole, le-ltb (get_or s at 0) 2 g.low, le-ltb 4 (get_or s at 0) g.high, le-ltb (rank_at s at) floor g.above, le-ltb 32 (length_at s at) g.short, le-ltb (length s) (past s at) g.room)
      g.spelt

  -- for the code, which answers test by test
  pub good-not : (EntryGood s at floor → ⊥) → false ≡ entry_good s at floor
  good-not n = cases (entry_good s at floor) (λ e. absurd (n (good-means e))) (λ e. inv e)

-- Ranks

abbrev pub rank_of : Entry → ℕ
rank_of x = rank (kind x.sort) x.number

kind-one : (j k : Sort) → kind j ≡ kind k → j ≡ k
kind-one Constant Constant e = refl
kind-one Constant Compound e = absurd (omega (arith, e))
kind-one Constant Predicate e = absurd (omega (arith, e))
kind-one Compound Constant e = absurd (omega (arith, e))
kind-one Compound Compound e = refl
kind-one Compound Predicate e = absurd (omega (arith, e))
kind-one Predicate Constant e = absurd (omega (arith, e))
kind-one Predicate Compound e = absurd (omega (arith, e))
kind-one Predicate Predicate e = refl

rank_rises : (a m b n : ℕ) → m < 65536 → (a < b) ⊎ ((a ≡ b) × (m < n)) → suc (rank a m) ≤ rank b n
unfolding rank
rank_rises a m b n h (inl l) = omega arith
rank_rises a m b n h (inr (e, l)) = omega arith

rank_less : (a m b n : ℕ) → m < 65536 → n < 65536 → suc (rank a m) ≤ rank b n → (a < b) ⊎ ((a ≡ b) × (m < n))
unfolding rank
rank_less a m b n h g l = elim (dec_lt a b) [ yes p ↦ inl p | no p ↦ inr (let q : a ≡ b = omega arith in q, let q : m < n = omega arith in q) ]

before-rank : (x y : Entry) → Proper x → Before x y → suc (rank_of x) ≤ rank_of y
before-rank x y h (inl l) = rank_rises (kind x.sort) x.number (kind y.sort) y.number h.low (inl l)
before-rank x y h (inr (e, l)) = rank_rises (kind x.sort) x.number (kind y.sort) y.number h.low (inr (ap kind e, l))

rank-before : (x y : Entry) → Proper x → Proper y → suc (rank_of x) ≤ rank_of y → Before x y
rank-before x y h g l =
    elim (rank_less (kind x.sort) x.number (kind y.sort) y.number h.low g.low l) [
      | inl p ↦ inl p
      | inr p ↦ inr (kind-one x.sort y.sort p.0, p.1)
    ]

abbrev pub Above : ℕ → List Entry → Type 0
Above floor l = ToEach (λ y. floor ≤ rank_of y) l

pub above_lower : (f g : ℕ) (l : List Entry) → f ≤ g → Above g l → Above f l
above_lower f g [] h a = tt
above_lower f g (x ∷ l) h a = (omega (arith, a.0), above_lower f g l h a.1)

pub before_above : (x : Entry) (l : List Entry) → Proper x → ToEach (Before x) l → Above (suc (rank_of x)) l
before_above x [] h b = tt
before_above x (y ∷ l) h b = (before-rank x y h b.0, before_above x l h b.1)

pub above_before : (x : Entry) (l : List Entry) → Proper x → ToEach Proper l → Above (suc (rank_of x)) l → ToEach (Before x) l
above_before x [] h p a = tt
above_before x (y ∷ l) h p a = (rank-before x y h p.0 a.0, above_before x l h p.1 a.1)
