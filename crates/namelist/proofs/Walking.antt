-- Along the entries of a list.
use Prim.Native.Nat.{ℕ, ◌+◌, ◌≤◌, ◌<◌}
use mathlib.Core.Path.{◌≡◌, refl, sym as inv, ap, ap₂, ◌∙◌, subst}
use mathlib.Core.Bool.{Bool, true, false, ◌&&◌}
use mathlib.Core.List.{List, [], ◌∷◌, head-eq_of_cons-eq, tail-eq_of_cons-eq}
use native.Mathlib.Omega.{arith}
use borrow.Author.Tests.{eq-eqb}
use lib.ListN.{length, get_or}
use lib.Dec.{eqb}
use lib.Pointwise.{pointwise}
use Rattle.grammar.specs.Names.{Sort, Constant, Compound, Predicate, kind, is_sort, same_name}
use Rattle.namelist.specs.List.{Entry}
use Rattle.namelist.specs.Bytes.{name_at, past, shares, shares_at, unshared}
use Rattle.namelist.specs.ListLaws.{Stands, entered, stands-end, stands-more}
use Rattle.namelist.specs.Meaning.{entry-is}

-- Two entries

pub kind-sort : (j k : Sort) → is_sort j k ≡ eqb (kind j) (kind k)
kind-sort Constant Constant = refl
kind-sort Constant Compound = refl
kind-sort Constant Predicate = refl
kind-sort Compound Constant = refl
kind-sort Compound Compound = refl
kind-sort Compound Predicate = refl
kind-sort Predicate Constant = refl
kind-sort Predicate Compound = refl
kind-sort Predicate Predicate = refl

pointwise-is : (v w : List ℕ) → pointwise eqb v w ≡ same_name v w
pointwise-is [] [] = refl
pointwise-is [] (b ∷ w) = refl
pointwise-is (a ∷ v) [] = refl
pointwise-is (a ∷ v) (b ∷ w) = ap (λ (t : Bool). eqb a b && t) (pointwise-is v w)

module _ (s : List ℕ) (a b : ℕ) where
  pub shared : (t : Bool) (v w : List ℕ) → get_or s a 0 ≡ get_or s b 0 → v ≡ name_at s a → w ≡ name_at s b → t ≡ pointwise eqb v w → t ≡ shares_at s a b
  shared t v w h p q e = e ∙ pointwise-is v w ∙ ap₂ same_name p q ∙ inv (rw (eq-eqb (get_or s a 0) (get_or s b 0) h) refl)

-- One list from a place on

pub stands_one : (s : List ℕ) (at : ℕ) (l m : List Entry) → Stands s at l → Stands s at m → l ≡ m
stands_one s at [] [] p q = refl
stands_one s at [] (y ∷ m) p q = absurd (omega (arith, stands-more s at p, (entered s at y m q).room))
stands_one s at (x ∷ l) [] p q = absurd (omega (arith, stands-more s at q, (entered s at x l p).room))
stands_one s at (x ∷ l) (y ∷ m) p q =
    ap₂ (λ (z : Entry) (r : List Entry). z ∷ r) (inv (entry-is s at x l p) ∙ entry-is s at y m q) (stands_one s (past s at) l m (entered s at x l p).next (entered s at y m q).next)

shares-is : (s : List ℕ) (a b : ℕ) (x y : Entry) (l m : List Entry) → Stands s a (x ∷ l) → Stands s b (y ∷ m) → shares_at s a b ≡ shares x y
shares-is s a b x y l m p q =
    let g = entered s a x l p in
    let h = entered s b y m q in
    ap₂ (λ (i j : ℕ). eqb i j && same_name (name_at s a) (name_at s b)) g.kind_is h.kind_is
    ∙ ap₂ (λ (t : Bool) (w : List ℕ). t && same_name w (name_at s b)) (inv (kind-sort x.sort y.sort)) g.name_is
    ∙ ap (λ (w : List ℕ). is_sort x.sort y.sort && same_name x.name w) h.name_is

-- more of the list stands at a place inside it
pub record More (s : List ℕ) (at : ℕ) (m : List Entry) : Type 0 where
  pub top : Entry
  pub tail : List Entry
  pub is : m ≡ top ∷ tail
  pub stands : Stands s at (top ∷ tail)

pub more : (s : List ℕ) (at : ℕ) (m : List Entry) → Stands s at m → at < length s → More s at m
more s at [] h l = absurd (omega (arith, stands-more s at h))
more s at (x ∷ m) h l = record { top = x; tail = m; is = refl; stands = h }

pub stands-whole : (s : List ℕ) (at : ℕ) (m : List Entry) → Stands s at m → at < length s → at + 4 ≤ length s
stands-whole s at m h l = let y = more s at m h l in omega (arith, (entered s at y.top y.tail y.stands).room)

pub stands-past : (s : List ℕ) (at : ℕ) (m : List Entry) → Stands s at m → at < length s → past s at ≤ length s
stands-past s at m h l = let y = more s at m h l in (entered s at y.top y.tail y.stands).next.inside

-- Later entries with one name

pub record Seeking (s : List ℕ) (at i : ℕ) : Type 0 where
  pub entry : Entry
  pub later : List Entry
  pub left : List Entry
  pub begins : Stands s at (entry ∷ later)
  pub here : Stands s i left
  pub rest : unshared entry left ≡ unshared entry later

module _ (s : List ℕ) (at : ℕ) where
  abbrev Begins : Type 0
  Begins = (x : Entry) × (l : List Entry) × Stands s at (x ∷ l)

  begins-in : (x : Entry) (l : List Entry) → Stands s at (x ∷ l) → at < length s
  begins-in x l h = omega (arith, (entered s at x l h).room)

  pub begins-whole : Begins → at + 4 ≤ length s
  begins-whole h = stands-whole s at (h.0 ∷ h.1) h.2 (begins-in h.0 h.1 h.2)

  pub begins-past : Begins → past s at ≤ length s
  begins-past h = stands-past s at (h.0 ∷ h.1) h.2 (begins-in h.0 h.1 h.2)

  pub seeking-start : (i : ℕ) → Begins → i ≡ past s at → Seeking s at i
  seeking-start i h e =
      record { entry = h.0; later = h.1; left = h.1; begins = h.2; here = subst (λ (j : ℕ). Stands s j h.1) (inv e) (entered s at h.0 h.1 h.2).next; rest = refl }

  pub seeking-whole : (i : ℕ) → Seeking s at i → i < length s → i + 4 ≤ length s
  seeking-whole i g l = stands-whole s i g.left g.here l

  pub seeking-past : (i : ℕ) → Seeking s at i → i < length s → past s i ≤ length s
  seeking-past i g l = stands-past s i g.left g.here l

  told : (t : Bool) (i : ℕ) (g : Seeking s at i) → t ≡ unshared g.entry g.left → (x : Entry) (l : List Entry) → Stands s at (x ∷ l) → t ≡ unshared x l
  told t i g e x l h =
      let o = stands_one s at (g.entry ∷ g.later) (x ∷ l) g.begins h in
      e ∙ g.rest ∙ ap₂ unshared (head-eq_of_cons-eq o) (tail-eq_of_cons-eq o)

  pub seeking-fails : (i : ℕ) (t : Bool) → Seeking s at i → i < length s → t ≡ shares_at s at i → t ≡ true → (x : Entry) (l : List Entry) → Stands s at (x ∷ l) → false ≡ unshared x l
  seeking-fails i t g l e f =
      let y = more s i g.left g.here l in
      told false i g (inv (ap (unshared g.entry) y.is ∙ rw (inv (shares-is s at i g.entry y.top g.later y.tail g.begins y.stands) ∙ inv e ∙ f)))

  pub seeking-step : (i j : ℕ) (t : Bool) → Seeking s at i → i < length s → t ≡ shares_at s at i → t ≡ false → j ≡ past s i → Seeking s at j
  seeking-step i j t g l e f q =
      let y = more s i g.left g.here l in
      record {
        entry = g.entry;
        later = g.later;
        left = y.tail;
        begins = g.begins;
        here = subst (λ (k : ℕ). Stands s k y.tail) (inv q) (entered s i y.top y.tail y.stands).next;
        rest = inv (ap (unshared g.entry) y.is ∙ rw (inv (shares-is s at i g.entry y.top g.later y.tail g.begins y.stands) ∙ inv e ∙ f)) ∙ g.rest;
      }

  pub seeking-end : (i : ℕ) → Seeking s at i → length s ≤ i → (x : Entry) (l : List Entry) → Stands s at (x ∷ l) → true ≡ unshared x l
  seeking-end i g l = told true i g (inv (ap (unshared g.entry) (stands-end s i g.left g.here l)))

pub ruleset seeking = (begins-whole, begins-past, seeking-start, seeking-whole, seeking-past, seeking-step)

pub ruleset seeking-said = (seeking-fails, seeking-end)
