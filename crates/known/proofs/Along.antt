-- Along the entries of a list: their numbers in turn, and the entry of a name.
use Prim.Native.Nat.{ℕ, suc, ◌+◌, ◌≤◌, ◌<◌}
use mathlib.Core.Path.{◌≡◌, refl, sym as inv, ap, ap₂, ◌∙◌, subst}
use mathlib.Core.Bool.{Bool, true, false, ◌&&◌}
use mathlib.Core.List.{List, [], ◌∷◌}
use native.Mathlib.Omega.{arith}
use borrow.Author.Tests.{eq-eqb, ne_eqb, lt-ltb, le-ltb}
use lib.ListN.{length, get_or}
use lib.Dec.{eqb}
use Rattle.std.specs.declared.option.Option.{Option}
use Rattle.std.specs.declared.option.Option.TheVariants.{Some, None}
use Rattle.terms.specs.Cases.{cases}
use Rattle.format.specs.Format.{Bytes}
use Rattle.format.specs.Reading.{number_at}
use Rattle.grammar.specs.Names.{Sort, Constant, Compound, Predicate, kind, is_sort, same_name}
use Rattle.namelist.specs.List.{Entry}
use Rattle.namelist.specs.Bytes.{sort_of, name_at, past, entries_of, is_list}
use Rattle.namelist.specs.ListLaws.{Stands, entered, stands-end, stands-more}
use Rattle.namelist.specs.Meaning.{entry-is, list-means, list-stands}
use Rattle.namelist.proofs.Walking.{More, stands_one}
use Rattle.questions.specs.Given.{names_of}
use Rattle.known.specs.declared.Known.{Known}
use Rattle.known.specs.InTurn.{fits, in_turn, own_of, more_of, in_turn_of, Low}
use Rattle.known.specs.TurnLaws.{own-more, not-list, gives-turn}
use Rattle.known.specs.Known.{Turned, Knows, sought}

-- the list from its start, and what is left of it at a place
pub record Left (s : List ℕ) (at : ℕ) : Type 0 where
  pub whole : List Entry
  pub left : List Entry
  pub begins : Stands s 0 whole
  pub here : Stands s at left

shown : (s : List ℕ) (at : ℕ) (m : List Entry) → Stands s at m → at < length s → More s at m
shown s at [] h l = absurd (omega (arith, stands-more s at h))
shown s at (x ∷ m) h l = record { top = x; tail = m; is = refl; stands = h }

module _ (s : List ℕ) where
  abbrev Listed : Type 0
  Listed = (l : List Entry) × Stands s 0 l

  abbrev left_start : Listed → Left s 0
  left_start h = record { whole = h.0; left = h.0; begins = h.1; here = h.1 }

  abbrev next : (at : ℕ) (g : Left s at) → at < length s → More s at g.left
  next at g l = shown s at g.left g.here l

  abbrev left_step : (at to : ℕ) (g : Left s at) (l : at < length s) → to ≡ past s at → Left s to
  left_step at to g l q =
      let y = next at g l in
      record { whole = g.whole; left = y.tail; begins = g.begins; here = subst (λ (k : ℕ). Stands s k y.tail) (inv q) (entered s at y.top y.tail y.stands).next }

  left-room : (at : ℕ) (g : Left s at) → at < length s → at + 4 ≤ length s
  left-room at g l = let y = next at g l in omega (arith, (entered s at y.top y.tail y.stands).room)

  left-past : (at : ℕ) (g : Left s at) → at < length s → past s at ≤ length s
  left-past at g l = let y = next at g l in (entered s at y.top y.tail y.stands).next.inside

  left_one : (at : ℕ) (g : Left s at) (l : List Entry) → Stands s 0 l → g.whole ≡ l
  left_one at g l h = stands_one s 0 g.whole l g.begins h

  left_over : (at : ℕ) (g : Left s at) → length s ≤ at → g.left ≡ []
  left_over at g l = stands-end s at g.left g.here l

  -- Numbers in turn

  pub record Turning (at : ℕ) (c : Known) : Type 0 where
    pub inner : Left s at
    pub low : Low c
    pub rest : in_turn_of c inner.left ≡ in_turn 0 0 0 inner.whole
    pub counts : (k : Sort) → own_of c k + length (names_of k inner.left) ≡ length (names_of k inner.whole)

  pub turning-start : (c : Known) → c.constants ≡ 0 → c.compounds ≡ 0 → c.predicates ≡ 0 → Listed → Turning 0 c
  turning-start c x y z h =
      record {
        inner = left_start h;
        low = record { constants = omega arith; compounds = omega arith; predicates = omega arith };
        rest = rw (x, y, z) refl;
        counts = zero_more;
      }
    where
      zero_more : (k : Sort) → own_of c k + length (names_of k h.0) ≡ length (names_of k h.0)
      zero_more Constant = omega arith
      zero_more Compound = omega arith
      zero_more Predicate = omega arith

  pub turning-room : (at : ℕ) (c : Known) → Turning at c → at < length s → at + 4 ≤ length s
  turning-room at c g l = left-room at g.inner l

  pub turning-number : (at : ℕ) (c : Known) → Turning at c → at < length s → at + 1 + 1 < length s
  turning-number at c g l = omega (arith, turning-room at c g l)

  pub turning-past : (at : ℕ) (c : Known) → Turning at c → at < length s → past s at ≤ length s
  turning-past at c g l = left-past at g.inner l

  pub turning-low : (at : ℕ) (c : Known) → Turning at c → Low c
  turning-low at c g = g.low

  module _ (at : ℕ) (c : Known) (g : Turning at c) (l : at < length s) (a n m : ℕ) (ka : a ≡ get_or s at 0) (na : n ≡ number_at s (at + 1)) (ma : m ≡ own_of c (sort_of a)) where
    abbrev y : More s at g.inner.left
    y = next at g.inner l

    sort-is : sort_of a ≡ y.top.sort
    sort-is = ap sort_of ka ∙ ap (λ (x : Entry). x.sort) (entry-is s at y.top y.tail y.stands)

    number_is : n ≡ y.top.number
    number_is = na ∙ ap (λ (x : Entry). x.number) (entry-is s at y.top y.tail y.stands)

    fits-here : fits y.top.number (own_of c y.top.sort) ≡ fits n m
    fits-here = ap₂ fits (inv number_is) (ap (own_of c) (inv sort-is) ∙ inv ma)

    stops : fits n m ≡ false → (e : List Entry) → Stands s 0 e → in_turn 0 0 0 e ≡ false
    stops f e h = inv (inv (ap (in_turn_of c) y.is ∙ rw (fits-here ∙ f)) ∙ g.rest ∙ ap (in_turn 0 0 0) (left_one at g.inner e h))

    pub turning-other : (n ≡ m → ⊥) → (e : List Entry) → Stands s 0 e → in_turn 0 0 0 e ≡ false
    turning-other d = stops (rw (ne_eqb n m d))

    pub turning-many : n ≡ m → 61439 ≤ n → (e : List Entry) → Stands s 0 e → in_turn 0 0 0 e ≡ false
    turning-many e h = stops (rw (eq-eqb n m e) (le-ltb n 61439 (omega arith)))

    pub turning-step : n ≡ m → n < 61439 → (d : Known) (to : ℕ) → d ≡ more_of c (sort_of a) → to ≡ past s at → Turning to d
    turning-step e h d to q p =
        let t : fits n m ≡ true = rw (eq-eqb n m e) (lt-ltb n 61439 (omega arith)) in
        let z : d ≡ more_of c y.top.sort = q ∙ ap (more_of c) sort-is in
        rw z
        (record {
          inner = left_step at to g.inner l p;
          low = lows y.top.sort (e ∙ ma ∙ ap (own_of c) sort-is);
          rest = inv (ap (in_turn_of c) y.is ∙ rw (fits-here ∙ t)) ∙ g.rest;
          counts = λ k. each k (g.counts k);
        })
      where
        lows : (j : Sort) → n ≡ own_of c j → Low (more_of c j)
        lows Constant f = record { constants = omega arith; compounds = omega (arith, g.low.compounds); predicates = omega (arith, g.low.predicates) }
        lows Compound f = record { constants = omega (arith, g.low.constants); compounds = omega arith; predicates = omega (arith, g.low.predicates) }
        lows Predicate f = record { constants = omega (arith, g.low.constants); compounds = omega (arith, g.low.compounds); predicates = omega arith }

        each : (k : Sort) → own_of c k + length (names_of k g.inner.left) ≡ length (names_of k g.inner.whole) →
            own_of (more_of c y.top.sort) k + length (names_of k y.tail) ≡ length (names_of k g.inner.whole)
        each k f =
            let m = own-more y.top.sort k c.constants c.compounds c.predicates in
            let i : own_of c k + length (names_of k (y.top ∷ y.tail)) ≡ length (names_of k g.inner.whole) = ap (λ (x : List Entry). own_of c k + length (names_of k x)) (inv y.is) ∙ f in
            cases (is_sort k y.top.sort)
            (λ t. let j : own_of c k + suc (length (names_of k y.tail)) ≡ length (names_of k g.inner.whole) = rw t at i in let u : own_of (more_of c y.top.sort) k ≡ own_of c k + 1 = m ∙ rw t in omega arith)
            (λ t. let j : own_of c k + length (names_of k y.tail) ≡ length (names_of k g.inner.whole) = rw t at i in let u : own_of (more_of c y.top.sort) k ≡ own_of c k = m ∙ rw t in omega arith)

  pub turning-end : (at : ℕ) (c : Known) → Turning at c → length s ≤ at → (e : List Entry) → Stands s 0 e → Turned e (Some c)
  turning-end at c g l e h =
      let o = left_one at g.inner e h in
      let z = left_over at g.inner l in (
        inv (inv (ap (in_turn_of c) z) ∙ g.rest ∙ ap (in_turn 0 0 0) o),
        λ k. let q = ap (λ (x : List Entry). length (names_of k x)) z in let i = g.counts k in let j = ap (λ (x : List Entry). length (names_of k x)) o in omega arith,
      )

  -- A name

  pub record Calling (a : ℕ) (w : List ℕ) (at : ℕ) : Type 0 where
    pub inner : Left s at
    pub rest : (k : Sort) → a ≡ kind k → sought inner.left k w ≡ sought inner.whole k w

  module _ (a : ℕ) (w : List ℕ) where
    pub calling-start : Listed → Calling a w 0
    calling-start h = record { inner = left_start h; rest = λ k e. refl }

    pub calling-room : (at : ℕ) → Calling a w at → at < length s → at + 4 ≤ length s
    calling-room at g l = left-room at g.inner l

    pub calling-number : (at : ℕ) → Calling a w at → at < length s → at + 1 + 1 < length s
    calling-number at g l = omega (arith, left-room at g.inner l)

    pub calling-past : (at : ℕ) → Calling a w at → at < length s → past s at ≤ length s
    calling-past at g l = left-past at g.inner l

    kind-sort : (j k : Sort) → is_sort j k ≡ eqb (kind j) (kind k)
    kind-sort Constant Constant = refl
    kind-sort Constant Compound = refl
    kind-sort Constant Predicate = refl
    kind-sort Compound Constant = refl
    kind-sort Compound Compound = refl
    kind-sort Compound Predicate = refl
    kind-sort Predicate Constant = refl
    kind-sort Predicate Compound = refl
    kind-sort Predicate Predicate = refl

    module _ (at : ℕ) (g : Calling a w at) (l : at < length s) (t : Bool) (ta : t ≡ (eqb a (get_or s at 0) && same_name w (name_at s at))) where
      abbrev x : More s at g.inner.left
      x = next at g.inner l

      hit : (k : Sort) → a ≡ kind k → (is_sort k x.top.sort && same_name w x.top.name) ≡ t
      hit k e =
          let z = entered s at x.top x.tail x.stands in
          ap₂ (λ (u : Bool) (v : List ℕ). u && same_name w v) (kind-sort k x.top.sort ∙ ap₂ eqb (inv e) (inv z.kind_is)) (inv z.name_is) ∙ inv ta

      pub calling_hit : t ≡ true → (n : ℕ) → n ≡ number_at s (at + 1) → (e : List Entry) (k : Sort) → Stands s 0 e → a ≡ kind k → Some n ≡ sought e k w
      calling_hit y n q e k h f =
          let z = entered s at x.top x.tail x.stands in
          ap Some (q ∙ z.number_is)
          ∙ inv (ap (λ (m : List Entry). sought m k w) x.is ∙ rw (hit k f ∙ y))
          ∙ g.rest k f ∙ ap (λ (m : List Entry). sought m k w) (left_one at g.inner e h)

      pub calling-step : t ≡ false → (to : ℕ) → to ≡ past s at → Calling a w to
      calling-step y to q =
          record { inner = left_step at to g.inner l q; rest = λ k f. inv (ap (λ (m : List Entry). sought m k w) x.is ∙ rw (hit k f ∙ y)) ∙ g.rest k f }

    pub calling-end : (at : ℕ) → Calling a w at → length s ≤ at → (e : List Entry) (k : Sort) → Stands s 0 e → a ≡ kind k → None ≡ sought e k w
    calling-end at g l e k h f =
        inv (ap (λ (m : List Entry). sought m k w) (left_over at g.inner l)) ∙ g.rest k f ∙ ap (λ (m : List Entry). sought m k w) (left_one at g.inner e h)

pub ruleset turning = (turning-start, turning-room, turning-number, turning-past, turning-low, turning-step)

pub ruleset turning-said = (turning-other, turning-many, turning-end)

pub ruleset calls = (calling-start, calling-room, calling-number, calling-past, calling-step)

pub ruleset calls-said = (calling_hit, calling-end)

-- The check

module _ (s : List ℕ) (t : Bool) (said : t ≡ is_list s) where
  pub known-none : t ≡ false → Knows s None
  known-none f = not-list s (inv said ∙ f)

  module _ (bytes : Bytes s) (good : t ≡ true) where
    abbrev is_one : is_list s ≡ true
    is_one = inv said ∙ good

    pub known-made : (l : List Entry) × Stands s 0 l
    known-made = (entries_of s, list-stands s (entries_of s) (list-means s bytes is_one))

    pub known-said : (r : Option Known) → ((l : List Entry) → Stands s 0 l → Turned l r) → Knows s r
    known-said r h = go r (h (entries_of s) (list-stands s (entries_of s) (list-means s bytes is_one)))
      where
        go : (r : Option Known) → Turned (entries_of s) r → Knows s r
        go None u = inv (gives-turn s bytes is_one) ∙ u
        go (Some c) u = (inv (gives-turn s bytes is_one) ∙ u.0, u.1)
