-- The test entry by entry is the one that tells a list by its names (questions, Given: `gives`); a name's number in such a list is its place among the names.
use Rattle.std.specs.Prelude.{ℕ, suc, ◌+◌, ◌/◌, ◌%◌, ◌≤◌, ◌<◌, ◌≡◌, refl, true, false, length, eqb, leb, Some, None}
use Rattle.std.proofs.Math.Path.{sym as inv, ap}
use Rattle.std.proofs.Common.{◌∙◌, subst, inl, inr, true≢false, arith, eqb-true, eq-eqb, ltb-true, lt-ltb, le-leb}
use mathlib.Core.List.{List, [], ◌∷◌, ◌++◌, append_assoc}
use Rattle.terms.specs.When.{◌⇒◌∣◌}
use Rattle.terms.specs.Cases.{cases}
use Rattle.format.specs.Format.{Bytes}
use Rattle.grammar.specs.Names.{Sort, Constant, Compound, Predicate, same_name, place, within, is_sort, kind, entries, list_of}
use Rattle.grammar.specs.NameLaws.{same_refl}
use Rattle.grammar.specs.Query.{Given}
use Rattle.namelist.specs.List.{Entry, listed, Before, ToEach, Along, IsList}
use Rattle.namelist.specs.Bytes.{entries_of, is_list}
use Rattle.namelist.specs.Meaning.{list-means, entries-are}
use Rattle.namelist.specs.Tests.{no_test, passed, behind}
use Rattle.printing.proofs.OrderLaws.{same-sort}
use Rattle.namelist.specs.NamingLaws.{entry}
use Rattle.namelist.specs.Table.{entries_on, table_entries, table-list}
use Rattle.questions.specs.Given.{names_of, given_from, gives, gives-means}
use Rattle.known.specs.InTurn.{own, more, fits, in_turn}
use Rattle.known.specs.Known.{sought}

-- Numbers

fits-means : (n m : ℕ) → fits n m ≡ true → (n ≡ m) × (n < 61439)
fits-means n m e =
    cases (eqb n m) (λ t. (eqb-true n m t, ltb-true n 61439 (rw t at e))) (λ t. no_test (rw t at e))

fits-is : (n : ℕ) → n < 61439 → fits n n ≡ true
fits-is n h = rw (eq-eqb n n refl) (lt-ltb n 61439 h)

pub own-more : (j k : Sort) (c f p : ℕ) → own (more Constant j c) (more Compound j f) (more Predicate j p) k ≡ more k j (own c f p k)
own-more j Constant c f p = refl
own-more j Compound c f p = refl
own-more j Predicate c f p = refl

-- Entries rise by their kinds, so that those of a lower one have come to an end

other-sort : (k j : Sort) → kind k < kind j → is_sort k j ≡ false
other-sort Constant Constant h = absurd (omega arith)
other-sort Constant Compound h = refl
other-sort Constant Predicate h = refl
other-sort Compound Constant h = refl
other-sort Compound Compound h = absurd (omega arith)
other-sort Compound Predicate h = refl
other-sort Predicate Constant h = refl
other-sort Predicate Compound h = refl
other-sort Predicate Predicate h = absurd (omega arith)

before-kind : (x y : Entry) → Before x y → kind x.sort ≤ kind y.sort
before-kind x y (inl h) = omega arith
before-kind x y (inr (e, h)) = let q = ap kind e in omega arith

none-lower : (k : Sort) (x : Entry) (l : List Entry) → kind k < kind x.sort → ToEach (Before x) l → names_of k l ≡ []
none-lower k x [] h b = refl
none-lower k x (y ∷ l) h b = let q = before-kind x y b.0 in rw (other-sort k y.sort (omega arith)) (none-lower k x l h b.1)

-- What stands in turn is listed by its names

abbrev laid : ℕ → ℕ → ℕ → List Entry → List ℕ
laid c f p l = entries Constant c (names_of Constant l) ++ (entries Compound f (names_of Compound l) ++ entries Predicate p (names_of Predicate l))

abbrev front : ℕ → ℕ → List ℕ → List ℕ → List ℕ
front a n w r = (a ∷ n / 256 ∷ n % 256 ∷ length w ∷ w) ++ r

suc-more : (n : ℕ) → n + 1 ≡ suc n
suc-more n = omega arith

laid-step : (k : Sort) (n : ℕ) (w : List ℕ) (l : List Entry) (c f p : ℕ) → ToEach (Before (entry k n w)) l → n ≡ own c f p k →
    listed l ≡ laid (more Constant k c) (more Compound k f) (more Predicate k p) l → listed (entry k n w ∷ l) ≡ laid c f p (entry k n w ∷ l)
laid-step Constant n w l c f p b e h =
    ap (λ (i : ℕ). front 2 i w (listed l)) e
    ∙ ap (front 2 c w) (h ∙ ap (λ (i : ℕ). laid i f p l) (suc-more c))
    ∙ ap (λ (z : List ℕ). 2 ∷ c / 256 ∷ c % 256 ∷ length w ∷ z) (inv (append_assoc w (entries Constant (suc c) (names_of Constant l)) _))
laid-step Compound n w l c f p b e h =
    let none = none-lower Constant (entry Compound n w) l (omega arith) b in
    ap (λ (i : ℕ). front 3 i w (listed l)) e
    ∙ ap (front 3 f w) (rw none at (h ∙ ap (λ (i : ℕ). laid c i p l) (suc-more f)))
    ∙ rw none (ap (λ (z : List ℕ). 3 ∷ f / 256 ∷ f % 256 ∷ length w ∷ z) (inv (append_assoc w (entries Compound (suc f) (names_of Compound l)) _)))
laid-step Predicate n w l c f p b e h =
    let none = none-lower Constant (entry Predicate n w) l (omega arith) b in
    let none2 = none-lower Compound (entry Predicate n w) l (omega arith) b in
    ap (λ (i : ℕ). front 4 i w (listed l)) e
    ∙ ap (front 4 p w) (rw (none, none2) at (h ∙ ap (λ (i : ℕ). laid c f i l) (suc-more p)))
    ∙ rw (none, none2)

pub turn-listed : (c f p : ℕ) (l : List Entry) → Along Before l → in_turn c f p l ≡ true → listed l ≡ laid c f p l
turn-listed c f p [] b e = refl
turn-listed c f p (x ∷ l) b e =
    laid-step x.sort x.number x.name l c f p b.0 (fits-means x.number (own c f p x.sort) (passed (fits x.number (own c f p x.sort)) _ e)).0
    (turn-listed (more Constant x.sort c) (more Compound x.sort f) (more Predicate x.sort p) l b.1 (behind (fits x.number (own c f p x.sort)) _ e))

-- and has few names

pub turn-few : (k : Sort) (c f p : ℕ) (l : List Entry) → own c f p k ≤ 61439 → in_turn c f p l ≡ true → own c f p k + length (names_of k l) ≤ 61439
turn-few k c f p [] h e = omega arith
turn-few k c f p (x ∷ l) h e =
    let t = fits-means x.number (own c f p x.sort) (passed (fits x.number (own c f p x.sort)) _ e) in
    let m = own-more x.sort k c f p in
    let i = turn-few k (more Constant x.sort c) (more Compound x.sort f) (more Predicate x.sort p) l in
    let z = behind (fits x.number (own c f p x.sort)) _ e in
    cases (is_sort k x.sort)
    (λ y.
    let q : own c f p k ≡ own c f p x.sort = ap (own c f p) (inv (same-sort k x.sort y)) in
    let u : own (more Constant x.sort c) (more Compound x.sort f) (more Predicate x.sort p) k ≡ own c f p k + 1 = m ∙ rw y in
    rw y (omega (arith, i (omega arith) z)))
    (λ y.
    let u : own (more Constant x.sort c) (more Compound x.sort f) (more Predicate x.sort p) k ≡ own c f p k = m ∙ rw y in
    rw y (omega (arith, i (omega arith) z)))

-- The entries of a table stand in turn

on-constants : (n f p : ℕ) (l : List (List ℕ)) (r : List Entry) → n + length l ≤ 61439 → in_turn n f p (entries_on Constant n l ++ r) ≡ in_turn (n + length l) f p r
on-constants n f p [] r h = ap (λ (i : ℕ). in_turn i f p r) (let z : n ≡ n + 0 = omega arith in z)
on-constants n f p (w ∷ l) r h =
    rw (fits-is n (omega arith), suc-more n) (on-constants (suc n) f p l r (omega arith) ∙ ap (λ (i : ℕ). in_turn i f p r) (let z : suc n + length l ≡ n + suc (length l) = omega arith in z))

on-compounds : (c n p : ℕ) (l : List (List ℕ)) (r : List Entry) → n + length l ≤ 61439 → in_turn c n p (entries_on Compound n l ++ r) ≡ in_turn c (n + length l) p r
on-compounds c n p [] r h = ap (λ (i : ℕ). in_turn c i p r) (let z : n ≡ n + 0 = omega arith in z)
on-compounds c n p (w ∷ l) r h =
    rw (fits-is n (omega arith), suc-more n) (on-compounds c (suc n) p l r (omega arith) ∙ ap (λ (i : ℕ). in_turn c i p r) (let z : suc n + length l ≡ n + suc (length l) = omega arith in z))

on-predicates : (c f n : ℕ) (l : List (List ℕ)) → n + length l ≤ 61439 → in_turn c f n (entries_on Predicate n l) ≡ true
on-predicates c f n [] h = refl
on-predicates c f n (w ∷ l) h = rw (fits-is n (omega arith), suc-more n) (on-predicates c f (suc n) l (omega arith))

table-turn : (g : Given) → ((k : Sort) → length (g k) ≤ 61439) → in_turn 0 0 0 (table_entries g) ≡ true
table-turn g h =
    on-constants 0 0 0 (g Constant) (entries_on Compound 0 (g Compound) ++ entries_on Predicate 0 (g Predicate)) (omega (arith, h Constant))
    ∙ on-compounds (0 + length (g Constant)) 0 0 (g Compound) (entries_on Predicate 0 (g Predicate)) (omega (arith, h Compound))
    ∙ on-predicates (0 + length (g Constant)) (0 + length (g Compound)) 0 (g Predicate) (omega (arith, h Predicate))

-- The two tests together

pub not-list : (s : List ℕ) → is_list s ≡ false → gives s ≡ false
unfolding gives
not-list s e = rw e

module _ (s : List ℕ) (bytes : Bytes s) where
  few-said : in_turn 0 0 0 (entries_of s) ≡ true → (k : Sort) → 0 + length (names_of k (entries_of s)) ≤ 61439
  few-said t Constant = turn-few Constant 0 0 0 (entries_of s) (omega arith) t
  few-said t Compound = turn-few Compound 0 0 0 (entries_of s) (omega arith) t
  few-said t Predicate = turn-few Predicate 0 0 0 (entries_of s) (omega arith) t

  few-code : in_turn 0 0 0 (entries_of s) ≡ true → (k : Sort) → leb (length (given_from s k)) 61439 ≡ true
  few-code t k = le-leb (length (given_from s k)) 61439 (omega (arith, few-said t k))

  turn-gives : is_list s ≡ true → in_turn 0 0 0 (entries_of s) ≡ true → gives s ≡ true
  unfolding gives
  turn-gives e t =
      let l = list-means s bytes e in
      let q : list_of (given_from s) ≡ s = inv (l.bytes ∙ turn-listed 0 0 0 (entries_of s) l.rises t) in
      rw (e, ap (λ (z : List ℕ). same_name z s) q ∙ same_refl s, few-code t Constant, few-code t Compound, few-code t Predicate)

  gives-turned : gives s ≡ true → in_turn 0 0 0 (entries_of s) ≡ true
  gives-turned g =
      let v = gives-means s bytes g in
      let is = subst (λ (z : List ℕ). IsList z (table_entries (given_from s))) (inv v.is) (table-list 61439 (given_from s) v.good (omega arith)) in
      ap (in_turn 0 0 0) (entries-are s (table_entries (given_from s)) is) ∙ table-turn (given_from s) v.good.few

  pub gives-turn : is_list s ≡ true → in_turn 0 0 0 (entries_of s) ≡ gives s
  gives-turn e =
      cases (in_turn 0 0 0 (entries_of s)) (λ t. t ∙ inv (turn-gives e t))
      (λ t. cases (gives s) (λ g. absurd (true≢false (inv (gives-turned g) ∙ t))) (λ g. t ∙ inv g))

-- The number of a name

pub sought-none : (k : Sort) (w : List ℕ) (l : List Entry) → within w (names_of k l) ≡ false → sought l k w ≡ None
sought-none k w [] h = refl
sought-none k w (x ∷ l) h =
    cases (is_sort k x.sort)
    (λ y. let g : within w (x.name ∷ names_of k l) ≡ false = rw y at h in cases (same_name w x.name) (λ z. no_test (inv (rw z at g))) (λ z. rw (y, z) (sought-none k w l (rw z at g))))
    (λ y. rw y (sought-none k w l (rw y at h)))

pub sought-place : (k : Sort) (w : List ℕ) (c f p : ℕ) (l : List Entry) → in_turn c f p l ≡ true → within w (names_of k l) ≡ true → sought l k w ≡ Some (own c f p k + place w (names_of k l))
sought-place k w c f p [] e h = no_test h
sought-place k w c f p (x ∷ l) e h =
    let t = fits-means x.number (own c f p x.sort) (passed (fits x.number (own c f p x.sort)) _ e) in
    let m = own-more x.sort k c f p in
    let i = sought-place k w (more Constant x.sort c) (more Compound x.sort f) (more Predicate x.sort p) l (behind (fits x.number (own c f p x.sort)) _ e) in
    cases (is_sort k x.sort)
    (λ y.
    let q : own c f p k ≡ own c f p x.sort = ap (own c f p) (inv (same-sort k x.sort y)) in
    let u : own (more Constant x.sort c) (more Compound x.sort f) (more Predicate x.sort p) k ≡ own c f p k + 1 = m ∙ rw y in
    let g : within w (x.name ∷ names_of k l) ≡ true = rw y at h in
    cases (same_name w x.name) (λ z. rw (y, z) (ap Some (omega (arith, t.0)))) (λ z. rw (y, z) (i (rw z at g) ∙ ap Some (omega arith))))
    (λ y.
    let u : own (more Constant x.sort c) (more Compound x.sort f) (more Predicate x.sort p) k ≡ own c f p k = m ∙ rw y in
    rw y (i (rw y at h) ∙ ap Some (omega arith)))

-- by the names that a list gives
pub known-number : (s : List ℕ) → Bytes s → gives s ≡ true → (k : Sort) (w : List ℕ) → sought (entries_of s) k w ≡ (within w (given_from s k) ⇒ Some (place w (given_from s k)) ∣ None)
known-number s bytes g k w =
    cases (within w (given_from s k))
    (λ h. rw h (sought-place k w 0 0 0 (entries_of s) (gives-turned s bytes g) h ∙ ap Some (from_zero k)))
    (λ h. rw h (sought-none k w (entries_of s) h))
  where
    from_zero : (k : Sort) → own 0 0 0 k + place w (given_from s k) ≡ place w (given_from s k)
    from_zero Constant = omega arith
    from_zero Compound = omega arith
    from_zero Predicate = omega arith
