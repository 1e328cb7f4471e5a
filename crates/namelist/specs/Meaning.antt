-- Bytes are a name list just if they pass the test entry by entry, and then of those entries alone.
use Prim.Native.Nat.{ℕ, zero, suc, ◌+◌, ◌*◌, ◌/◌, ◌%◌, ◌≤◌, ◌<◌}
use Rattle.std.specs.Prelude.{◌≡◌, false, eqb, ltb, length, get_or, drop}
use Rattle.std.proofs.Math.Path.{refl, ap₂}
use Rattle.std.proofs.Common.{sym as inv, ap, ◌∙◌, subst, arith, length-append, length-drop, take-append-drop, drop-cons, drop-drop, length-take-le}
use Rattle.std.proofs.Math.Bool.{true}
use mathlib.Core.List.{List, [], ◌∷◌, ◌++◌}
use borrow.Author.Tests.{ltb-false, lt-ltb, le-ltb, eqb-true, eqb-false}
use Rattle.std.proofs.Math.ListN.{drop_of_length-le}
use Rattle.terms.specs.Cases.{cases}
use Rattle.terms.specs.When.{◌⇒◌∣◌}
use Rattle.format.specs.Format.{Bytes}
use Rattle.format.specs.Reading.{number_at}
use Rattle.grammar.specs.Names.{Sort, Constant, Compound, Predicate, kind}
use Rattle.namelist.specs.List.{Entry, listed, Before, Along, Proper, IsList}
use Rattle.namelist.specs.Bytes.{is_name, sort_of, length_at, name_at, entry_at, rank, rank_at, past, entry_good, good_from, entries_from, entries_of, all_unshared, is_list}
use Rattle.namelist.specs.ListLaws.{Stands, entered, stands-more}
use Rattle.namelist.specs.ApartLaws.{all-means, all-is}
use Rattle.namelist.specs.Tests.{no_test, passed, behind, name-means, name_is, EntryGood, good-means, good_is, rank_of, Above, above_lower, before_above, above_before}

-- What passes is a list

sort-kind : (a : ℕ) → 2 ≤ a → a ≤ 4 → a ≡ kind (sort_of a)
sort-kind a l h =
    cases (eqb a 2) (λ e. rw e (eqb-true a 2 e))
    (λ e. cases (eqb a 3) (λ f. rw (e, f) (eqb-true a 3 f)) (λ f. rw (e, f) (let p = eqb-false a 2 e in let q = eqb-false a 3 f in four p q)))
  where
    four : (a ≡ 2 → ⊥) → (a ≡ 3 → ⊥) → a ≡ 4
    four p q = cases (eqb a 4) (λ e. eqb-true a 4 e) (λ e. absurd (none (eqb-false a 4 e)))
      where
        none : (a ≡ 4 → ⊥) → ⊥
        none r = omega (arith, p, q, r)

number_low : (s : List ℕ) (i : ℕ) → Bytes s → number_at s i < 65536
unfolding number_at
number_low s i b = let p = b i in let q = b (i + 1) in omega arith

front : (b c : ℕ) → c < 256 → b ≡ (b * 256 + c) / 256
front b c h = omega arith

back : (b c : ℕ) → c < 256 → c ≡ (b * 256 + c) % 256
back b c h = omega arith

number-front : (s : List ℕ) (i : ℕ) → Bytes s → get_or s i 0 ≡ number_at s i / 256
unfolding number_at
number-front s i b = front (get_or s i 0) (get_or s (i + 1) 0) (b (i + 1))

number-back : (s : List ℕ) (i : ℕ) → Bytes s → get_or s (i + 1) 0 ≡ number_at s i % 256
unfolding number_at
number-back s i b = back (get_or s i 0) (get_or s (i + 1) 0) (b (i + 1))

-- from a place on, entries of this rank or more
pub record Read (s : List ℕ) (at floor : ℕ) (l : List Entry) : Type 0 where
  pub stands : Stands s at l
  pub rises : Along Before l
  pub above : Above floor l

module _ (s : List ℕ) (bytes : Bytes s) where
  module _ (at floor : ℕ) (g : EntryGood s at floor) where
    abbrev x : Entry
    x = entry_at s at

    long : length x.name ≡ length_at s at
    long = length-take-le (length_at s at) (drop (at + 4) s) (omega (arith, length-drop (at + 4) s, g.room))

    fit : Proper x
    fit =
        record {
          low = number_low s (at + 1) bytes;
          fit = record { spelt = name-means (name_at s at) g.spelt; short = omega (arith, long, g.short) };
        }

    next_byte : (i j : ℕ) → i < length s → suc i ≡ j → drop i s ≡ get_or s i 0 ∷ drop j s
    next_byte i j l e = drop-cons s i 0 l ∙ ap (λ (k : ℕ). get_or s i 0 ∷ drop k s) e

    four : drop at s ≡ get_or s at 0 ∷ get_or s (at + 1) 0 ∷ get_or s (at + 2) 0 ∷ get_or s (at + 3) 0 ∷ drop (at + 4) s
    four =
        next_byte at (at + 1) (omega (arith, g.whole)) (omega arith)
        ∙ ap (λ (t : List ℕ). get_or s at 0 ∷ t) (next_byte (at + 1) (at + 2) (omega (arith, g.whole)) (omega arith)
        ∙ ap (λ (t : List ℕ). get_or s (at + 1) 0 ∷ t) (next_byte (at + 2) (at + 3) (omega (arith, g.whole)) (omega arith)
        ∙ ap (λ (t : List ℕ). get_or s (at + 2) 0 ∷ t) (next_byte (at + 3) (at + 4) (omega (arith, g.whole)) (omega arith))))

    rest : drop (at + 4) s ≡ x.name ++ drop (past s at) s
    rest = inv (take-append-drop (length_at s at) (drop (at + 4) s)) ∙ ap (λ (t : List ℕ). x.name ++ t) (drop-drop (length_at s at) (at + 4) s)

    laid : (l : List Entry) → drop (past s at) s ≡ listed l → drop at s ≡ listed (x ∷ l)
    laid l e =
        four
        ∙ ap₂ (λ (a : ℕ) (t : List ℕ). a ∷ t) (sort-kind (get_or s at 0) g.low g.high)
        (ap₂ (λ (a : ℕ) (t : List ℕ). a ∷ t) (number-front s (at + 1) bytes)
        (ap₂ (λ (a : ℕ) (t : List ℕ). a ∷ t) (ap (λ (i : ℕ). get_or s i 0) (let z : at + 2 ≡ at + 1 + 1 = omega arith in z) ∙ number-back s (at + 1) bytes)
        (ap₂ (λ (a : ℕ) (t : List ℕ). a ∷ t) (inv long) (rest ∙ ap (λ (t : List ℕ). x.name ++ t) e))))

    ranked : rank_of x ≡ rank_at s at
    ranked = ap (λ (a : ℕ). rank a (number_at s (at + 1))) (inv (sort-kind (get_or s at 0) g.low g.high))

    joined : (l : List Entry) → Read s (past s at) (suc (rank_at s at)) l → Read s at floor (x ∷ l)
    joined l r =
        let a : Above (suc (rank_of x)) l = subst (λ (n : ℕ). Above (suc n) l) (inv ranked) r.above in
        record {
          stands = record { here = laid l r.stands.here; inside = omega (arith, g.whole); proper = (fit, r.stands.proper) };
          rises = (above_before x l fit r.stands.proper a, r.rises);
          above = (omega (arith, ranked, g.above), above_lower floor (suc (rank_at s at)) l (omega (arith, g.above)) r.above);
        }

  pub good-read : (k at floor : ℕ) → at ≤ length s → good_from k s at floor ≡ true → Read s at floor (entries_from k s at)
  unfolding good_from entries_from
  good-read zero at floor h e = no_test e
  good-read (suc k) at floor h e =
      cases (ltb at (length s))
      (λ t.
      let f : (entry_good s at floor ⇒ good_from k s (past s at) (suc (rank_at s at)) ∣ false) ≡ true = rw t at e in
      let g = good-means s at floor (passed (entry_good s at floor) _ f) in
      rw t (joined at floor g _ (good-read k (past s at) (suc (rank_at s at)) g.room (behind (entry_good s at floor) _ f))))
      (λ t. rw t (record { stands = record { here = drop_of_length-le s (ltb-false at (length s) t); inside = h; proper = tt }; rises = tt; above = tt }))

-- A list passes

module _ (s : List ℕ) where
  good-entered : (at floor : ℕ) (x : Entry) (l : List Entry) → Stands s at (x ∷ l) → floor ≤ rank_of x → EntryGood s at floor
  good-entered at floor x l h a =
      let g = entered s at x l h in
      record {
        whole = omega (arith, g.room);
        low = kind-low x.sort g.kind_is;
        high = kind-high x.sort g.kind_is;
        above = subst (λ (n : ℕ). floor ≤ n) (inv (ap₂ rank g.kind_is g.number_is)) a;
        short = omega (arith, g.length_is, h.proper.0.fit.short);
        room = omega (arith, g.length_is, g.room);
        spelt = ap is_name g.name_is ∙ name_is x.name h.proper.0.fit.spelt;
      }
    where
      kind-low : (k : Sort) → get_or s at 0 ≡ kind k → 2 ≤ get_or s at 0
      kind-low Constant e = omega (arith, e)
      kind-low Compound e = omega (arith, e)
      kind-low Predicate e = omega (arith, e)

      kind-high : (k : Sort) → get_or s at 0 ≡ kind k → get_or s at 0 ≤ 4
      kind-high Constant e = omega (arith, e)
      kind-high Compound e = omega (arith, e)
      kind-high Predicate e = omega (arith, e)

  -- the entries read are those listed
  pub record Lists (k at floor : ℕ) (l : List Entry) : Type 0 where
    pub good : good_from k s at floor ≡ true
    pub entries : entries_from k s at ≡ l

  sort-kept : (k : Sort) → sort_of (kind k) ≡ k
  sort-kept Constant = refl
  sort-kept Compound = refl
  sort-kept Predicate = refl

  abbrev entry : Sort → ℕ → List ℕ → Entry
  entry k n w = record { sort = k; number = n; name = w }

  pub entry-is : (at : ℕ) (x : Entry) (l : List Entry) → Stands s at (x ∷ l) → entry_at s at ≡ x
  entry-is at x l h =
      let g = entered s at x l h in
      ap (λ (k : Sort). entry k (number_at s (at + 1)) (name_at s at)) (ap sort_of g.kind_is ∙ sort-kept x.sort)
      ∙ ap₂ (λ (n : ℕ) (w : List ℕ). entry x.sort n w) g.number_is g.name_is

  pub list_read : (k at floor : ℕ) (l : List Entry) → length l < k → Stands s at l → Along Before l → Above floor l → Lists k at floor l
  unfolding good_from entries_from
  list_read zero at floor l f h r a = absurd (omega arith)
  list_read (suc k) at floor [] f h r a =
      let t = le-ltb at (length s) (stands-more s at h) in
      record { good = rw t refl; entries = rw t refl }
  list_read (suc k) at floor (x ∷ l) f h r a =
      let g = entered s at x l h in
      let t = lt-ltb at (length s) (omega (arith, g.room)) in
      let q : rank_at s at ≡ rank_of x = ap₂ rank g.kind_is g.number_is in
      let v = list_read k (past s at) (suc (rank_at s at)) l (omega arith) g.next r.1 (subst (λ (n : ℕ). Above (suc n) l) (inv q) (before_above x l h.proper.0 r.0)) in
      record {
        good = rw (t, good_is s at floor (good-entered at floor x l h a.0)) v.good;
        entries = rw t (ap₂ (λ (y : Entry) (m : List Entry). y ∷ m) (entry-is at x l h) v.entries);
      }

-- The two together

pub list-means : (s : List ℕ) → Bytes s → is_list s ≡ true → IsList s (entries_of s)
unfolding is_list
list-means s bytes e =
    let r = good-read s bytes (suc (length s)) 0 0 (omega arith) (passed (good_from (suc (length s)) s 0 0) _ e) in
    record {
      bytes = r.stands.here;
      rises = r.rises;
      proper = r.stands.proper;
      apart = all-means (entries_of s) (behind (good_from (suc (length s)) s 0 0) _ e);
    }

listed-long : (l : List Entry) → length l ≤ length (listed l)
listed-long [] = omega arith
listed-long (x ∷ l) = omega (arith, listed-long l, length-append x.name (listed l))

all_above : (l : List Entry) → Above 0 l
all_above [] = tt
all_above (x ∷ l) = (omega arith, all_above l)

module _ (s : List ℕ) (l : List Entry) (h : IsList s l) where
  pub list-stands : Stands s 0 l
  list-stands = record { here = h.bytes; inside = omega arith; proper = h.proper }

  lists : Lists s (suc (length s)) 0 0 l
  lists = list_read s (suc (length s)) 0 0 l (omega (arith, ap length h.bytes, listed-long l)) list-stands h.rises (all_above l)

  pub list_is : is_list s ≡ true
  unfolding is_list
  list_is = rw lists.good (ap all_unshared lists.entries ∙ all-is l h.apart)

  pub entries-are : entries_of s ≡ l
  entries-are = lists.entries

-- one list of entries for given bytes
pub entries-one : (s : List ℕ) (l m : List Entry) → IsList s l → IsList s m → l ≡ m
entries-one s l m p q = inv (entries-are s l p) ∙ entries-are s m q

-- "a list not in C-13's form or a name shared by two symbols of one sort": there are no entries whose list this is
pub no-list-means : (s : List ℕ) → is_list s ≡ false → (l : List Entry) → IsList s l → ⊥
no-list-means s e l h = no_test (inv e ∙ list_is s l h)

pub no-list-is : (s : List ℕ) → Bytes s → ((l : List Entry) → IsList s l → ⊥) → is_list s ≡ false
no-list-is s bytes n = cases (is_list s) (λ e. absurd (n (entries_of s) (list-means s bytes e))) (λ e. e)
