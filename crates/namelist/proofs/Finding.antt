-- All entries of a list, and the one that is sought.
use Rattle.std.specs.Prelude.{Some, None}
use Rattle.std.proofs.Common.{Bor}
use Prim.Native.Nat.{ℕ, suc, ◌+◌, ◌≤◌, ◌<◌}
use mathlib.Core.Path.{◌≡◌, refl, sym as inv, ap, ap₂, ◌∙◌, subst}
use mathlib.Core.Bool.{Bool, true, false, not, ◌&&◌}
use mathlib.Core.List.{List, ◌∷◌}
use native.Mathlib.Omega.{arith}
use borrow.Author.Tests.{not-true, not-false, eq-eqb, ne_eqb, eqb-true, eqb-false}
use lib.ListN.{length, get_or}
use lib.Dec.{eqb}
use Rattle.terms.specs.Cases.{cases}
use Rattle.format.specs.Format.{Bytes}
use Rattle.format.specs.Reading.{number_at}
use Rattle.grammar.specs.Names.{Sort, kind, is_sort}
use Rattle.namelist.specs.List.{Entry, naming}
use Rattle.namelist.specs.Bytes.{name_at, past, good_from, entries_of, unshared, all_unshared, is_list}
use Rattle.namelist.specs.ListLaws.{Stands, entered, stands-end}
use Rattle.namelist.specs.NamingLaws.{GivesName, some, fit-some}
use Rattle.namelist.proofs.Walking.{kind-sort, stands_one, more, stands-whole, stands-past}
use Rattle.namelist.specs.Meaning.{good-read}

-- the list from its start, and what is left of it at a place
pub record Left (s : List ℕ) (at : ℕ) : Type 0 where
  pub whole : List Entry
  pub left : List Entry
  pub begins : Stands s 0 whole
  pub here : Stands s at left

flip : (a b : ℕ) → eqb a b ≡ eqb b a
flip a b = cases (eqb a b) (λ t. t ∙ inv (eq-eqb b a (inv (eqb-true a b t)))) (λ t. t ∙ inv (ne_eqb b a (λ e. eqb-false a b t (inv e))))

module _ (s : List ℕ) where
  abbrev Listed : Type 0
  Listed = (l : List Entry) × Stands s 0 l

  abbrev left_start : Listed → Left s 0
  left_start h = record { whole = h.0; left = h.0; begins = h.1; here = h.1 }

  abbrev left_step : (at next : ℕ) (g : Left s at) (l : at < length s) → next ≡ past s at → Left s next
  left_step at next g l q =
      let y = more s at g.left g.here l in
      record {
        whole = g.whole;
        left = y.tail;
        begins = g.begins;
        here = subst (λ (k : ℕ). Stands s k y.tail) (inv q) (entered s at y.top y.tail y.stands).next;
      }

  left_one : (at : ℕ) (g : Left s at) (l : List Entry) → Stands s 0 l → g.whole ≡ l
  left_one at g l h = stands_one s 0 g.whole l g.begins h

  -- No name twice

  pub record Sweeping (at : ℕ) : Type 0 where
    pub inner : Left s at
    pub rest : all_unshared inner.left ≡ all_unshared inner.whole

  pub sweeping-start : Listed → Sweeping 0
  sweeping-start h = record { inner = left_start h; rest = refl }

  pub sweeping-whole : (at : ℕ) → Sweeping at → at < length s → at + 4 ≤ length s
  sweeping-whole at g l = stands-whole s at g.inner.left g.inner.here l

  pub sweeping-past : (at : ℕ) → Sweeping at → at < length s → past s at ≤ length s
  sweeping-past at g l = stands-past s at g.inner.left g.inner.here l

  pub sweeping-begins : (at : ℕ) → Sweeping at → at < length s → (x : Entry) × (l : List Entry) × Stands s at (x ∷ l)
  sweeping-begins at g l = let y = more s at g.inner.left g.inner.here l in (y.top, y.tail, y.stands)

  pub sweeping-fails : (at : ℕ) (t : Bool) → Sweeping at → at < length s → ((x : Entry) (l : List Entry) → Stands s at (x ∷ l) → t ≡ unshared x l) → not t ≡ true →
      (l : List Entry) → Stands s 0 l → false ≡ all_unshared l
  sweeping-fails at t g p u f l h =
      let y = more s at g.inner.left g.inner.here p in
      inv (ap all_unshared y.is ∙ rw (inv (u y.top y.tail y.stands) ∙ not-true t f)) ∙ g.rest ∙ ap all_unshared (left_one at g.inner l h)

  pub sweeping-step : (at next : ℕ) (t : Bool) → Sweeping at → at < length s → ((x : Entry) (l : List Entry) → Stands s at (x ∷ l) → t ≡ unshared x l) → not t ≡ false → next ≡ past s at → Sweeping next
  sweeping-step at next t g p u f q =
      let y = more s at g.inner.left g.inner.here p in
      record { inner = left_step at next g.inner p q; rest = inv (ap all_unshared y.is ∙ rw (inv (u y.top y.tail y.stands) ∙ not-false t f)) ∙ g.rest }

  pub sweeping-end : (at : ℕ) → Sweeping at → length s ≤ at → (l : List Entry) → Stands s 0 l → true ≡ all_unshared l
  sweeping-end at g p l h = inv (ap all_unshared (stands-end s at g.inner.left g.inner.here p)) ∙ g.rest ∙ ap all_unshared (left_one at g.inner l h)

  -- The name of a symbol

  pub entry_other : (at b a n : ℕ) → b ≡ get_or s at 0 → (b ≡ a → ⊥) → false ≡ (eqb a (get_or s at 0) && eqb n (number_at s (at + 1)))
  entry_other at b a n q d = inv (rw (ne_eqb a (get_or s at 0) (λ e. d (q ∙ inv e))))

  pub entry-same : (at b i a n : ℕ) → b ≡ get_or s at 0 → b ≡ a → i ≡ number_at s (at + 1) → eqb i n ≡ (eqb a (get_or s at 0) && eqb n (number_at s (at + 1)))
  entry-same at b i a n q e f = flip i n ∙ ap (eqb n) f ∙ inv (rw (eq-eqb a (get_or s at 0) (inv e ∙ q)))

  pub record Finding (a n at : ℕ) : Type 0 where
    pub inner : Left s at
    pub rest : (k : Sort) → a ≡ kind k → naming inner.left k n ≡ naming inner.whole k n

  module _ (a n : ℕ) where
    pub finding-start : Listed → Finding a n 0
    finding-start h = record { inner = left_start h; rest = λ k e. refl }

    pub finding-whole : (at : ℕ) → Finding a n at → at < length s → at + 4 ≤ length s
    finding-whole at g l = stands-whole s at g.inner.left g.inner.here l

    pub finding-past : (at : ℕ) → Finding a n at → at < length s → past s at ≤ length s
    finding-past at g l = stands-past s at g.inner.left g.inner.here l

    pub finding-three : (at : ℕ) → Finding a n at → at < length s → at + 3 < length s
    finding-three at g l = omega (arith, finding-whole at g l)

    -- the entry at a place is the symbol's, or is not
    hit : (at : ℕ) (x : Entry) (m : List Entry) → Stands s at (x ∷ m) → (k : Sort) → a ≡ kind k → (is_sort k x.sort && eqb n x.number) ≡ (eqb a (get_or s at 0) && eqb n (number_at s (at + 1)))
    hit at x m h k e =
        let g = entered s at x m h in
        ap₂ (λ (t : Bool) (i : ℕ). t && eqb n i) (kind-sort k x.sort ∙ ap₂ eqb (inv e) (inv g.kind_is)) (inv g.number_is)

    pub finding_hit : (at : ℕ) (u : Bool) (r : Bor (List ℕ)) → Finding a n at → at < length s → u ≡ (eqb a (get_or s at 0) && eqb n (number_at s (at + 1))) → u ≡ true → r.now ≡ name_at s at →
        (k : Sort) → a ≡ kind k → (l : List Entry) → Stands s 0 l → GivesName (Some r) (naming l k n)
    finding_hit at u r g p q e v k w l h =
        let y = more s at g.inner.left g.inner.here p in
        let z = entered s at y.top y.tail y.stands in
        let t : (eqb a (get_or s at 0) && eqb n (number_at s (at + 1))) ≡ true = inv q ∙ e in
        let o : y.top.name ≡ naming l k n =
        inv (ap (λ (m : List Entry). naming m k n) y.is ∙ rw (hit at y.top y.tail y.stands k w ∙ t)) ∙ g.rest k w ∙ ap (λ (m : List Entry). naming m k n) (left_one at g.inner l h) in
        (v ∙ z.name_is ∙ o, ap some (inv o) ∙ fit-some y.top.name (y.stands.proper.0.fit))

    pub finding-step : (at next : ℕ) (u : Bool) → Finding a n at → at < length s → u ≡ (eqb a (get_or s at 0) && eqb n (number_at s (at + 1))) → u ≡ false → next ≡ past s at → Finding a n next
    finding-step at next u g p i f q =
        let t : (eqb a (get_or s at 0) && eqb n (number_at s (at + 1))) ≡ false = inv i ∙ f in
        let y = more s at g.inner.left g.inner.here p in
        record {
          inner = left_step at next g.inner p q;
          rest = λ k w. inv (ap (λ (m : List Entry). naming m k n) y.is ∙ rw (hit at y.top y.tail y.stands k w ∙ t)) ∙ g.rest k w;
        }

    pub finding-end : (at : ℕ) → Finding a n at → length s ≤ at → (k : Sort) → a ≡ kind k → (l : List Entry) → Stands s 0 l → GivesName None (naming l k n)
    finding-end at g p k w l h =
        inv (ap (λ (m : List Entry). naming m k n) (left_one at g.inner l h)) ∙ inv (g.rest k w) ∙ ap (λ (m : List Entry). naming m k n) (stands-end s at g.inner.left g.inner.here p)

pub ruleset sweeping = (sweeping-start, sweeping-whole, sweeping-past, sweeping-begins, sweeping-step)

pub ruleset sweeping-said = (sweeping-fails, sweeping-end)

pub ruleset matching = (entry_other, entry-same)

pub ruleset finding = (finding-start, finding-three, finding-whole, finding-past, finding-step)

pub ruleset finding-said = (finding_hit, finding-end)

-- Both checks

module _ (s : List ℕ) (t : Bool) (said : t ≡ good_from (suc (length s)) s 0 0) where
  pub list-none : t ≡ false → false ≡ is_list s
  unfolding is_list
  list-none f = inv (rw (inv said ∙ f))

  module _ (bytes : Bytes s) (good : t ≡ true) where
    pub list-made : (l : List Entry) × Stands s 0 l
    list-made = (entries_of s, (good-read s bytes (suc (length s)) 0 0 (omega arith) (inv said ∙ good)).stands)

    pub list-said : (r : Bool) → ((l : List Entry) → Stands s 0 l → r ≡ all_unshared l) → r ≡ is_list s
    unfolding is_list
    list-said r h = h (entries_of s) (good-read s bytes (suc (length s)) 0 0 (omega arith) (inv said ∙ good)).stands ∙ inv (rw (inv said ∙ good))
