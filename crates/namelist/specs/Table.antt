-- Tables of names, sort by sort, and the lists that they are written as: numbers from 0, none left out (document 02, C-13).
use Rattle.std.specs.Prelude.{ℕ, zero, suc, ◌+◌, ◌/◌, ◌%◌, ◌≤◌, ◌<◌, ◌≡◌, refl, false, List, [], ◌∷◌, ◌++◌, length, get_or}
use Rattle.std.proofs.Common.{sym as inv, ap, ap₂, ◌∙◌, true≢false, inl, inr, append_assoc, append-nil, arith, eq-eqb, ne_eqb}
use Rattle.terms.specs.Cases.{cases}
use Rattle.grammar.specs.Names.{Sort, Constant, Compound, Predicate, same_name, within, is_sort, kind, entries, list_of}
use Rattle.grammar.specs.NameLaws.{same_refl}
use Rattle.grammar.specs.GrowLaws.{is-sort_self}
use Rattle.grammar.specs.Query.{Given}
use Rattle.printing.specs.Fit.{Fit}
use Rattle.namelist.specs.List.{Entry, listed, Before, ToEach, Along, Proper, Apart, IsList, naming}
use Rattle.namelist.specs.NamingLaws.{entry}

abbrev pub EachFit : List (List ℕ) → Type 0
EachFit [] = Unit {0}
EachFit (w ∷ l) = Fit w × EachFit l

abbrev pub NoneTwice : List (List ℕ) → Type 0
NoneTwice [] = Unit {0}
NoneTwice (w ∷ l) = (within w l ≡ false) × NoneTwice l

-- names of C-13's form, none twice in a sort, so many of a sort at most
pub record GoodTable (most : ℕ) (g : Given) : Type 0 where
  pub few : (k : Sort) → length (g k) ≤ most
  pub fit : (k : Sort) → EachFit (g k)
  pub apart : (k : Sort) → NoneTwice (g k)

-- Entries

abbrev pub entries_on : Sort → ℕ → List (List ℕ) → List Entry
entries_on k n [] = []
entries_on k n (w ∷ l) = entry k n w ∷ entries_on k (suc n) l

abbrev pub table_entries : Given → List Entry
table_entries g = entries_on Constant 0 (g Constant) ++ (entries_on Compound 0 (g Compound) ++ entries_on Predicate 0 (g Predicate))

listed-on : (k : Sort) (n : ℕ) (l : List (List ℕ)) → listed (entries_on k n l) ≡ entries k n l
listed-on k n [] = refl
listed-on k n (w ∷ l) = ap (λ (z : List ℕ). (kind k ∷ n / 256 ∷ n % 256 ∷ length w ∷ w) ++ z) (listed-on k (suc n) l)

listed-append : (a b : List Entry) → listed (a ++ b) ≡ listed a ++ listed b
listed-append [] b = refl
listed-append (x ∷ a) b = ap (λ (z : List ℕ). kind x.sort ∷ x.number / 256 ∷ x.number % 256 ∷ length x.name ∷ z) (ap (λ (z : List ℕ). x.name ++ z) (listed-append a b) ∙ inv (append_assoc x.name (listed a) (listed b)))

listed-table : (g : Given) → listed (table_entries g) ≡ list_of g
listed-table g =
    listed-append (entries_on Constant 0 (g Constant)) (entries_on Compound 0 (g Compound) ++ entries_on Predicate 0 (g Predicate))
    ∙ ap₂ ◌++◌ (listed-on Constant 0 (g Constant)) (listed-append (entries_on Compound 0 (g Compound)) (entries_on Predicate 0 (g Predicate)) ∙ ap₂ ◌++◌ (listed-on Compound 0 (g Compound)) (listed-on Predicate 0 (g Predicate)))

-- Each entry

each_append : (R : Entry → Type 0) (a b : List Entry) → ToEach R a → ToEach R b → ToEach R (a ++ b)
each_append R [] b p q = q
each_append R (x ∷ a) b p q = (p.0, each_append R a b p.1 q)

along-append : (R : Entry → Entry → Type 0) (a b : List Entry) → Along R a → Along R b → ToEach (λ (x : Entry). ToEach (R x) b) a → Along R (a ++ b)
along-append R [] b p q r = q
along-append R (x ∷ a) b p q r = (each_append (R x) a b p.0 r.0, along-append R a b p.1 q r.1)

-- of one sort and numbered on from n
each_on : (R : Entry → Type 0) (k : Sort) (n : ℕ) (l : List (List ℕ)) → ((m : ℕ) (w : List ℕ) → n ≤ m → m < n + length l → R (entry k m w)) → ToEach R (entries_on k n l)
each_on R k n [] f = tt
each_on R k n (w ∷ l) f = (f n w (omega arith) (omega arith), each_on R k (suc n) l (λ m v p q. f m v (omega arith) (omega (arith, q))))

-- The entries of a table are a list

rises-on : (k : Sort) (n : ℕ) (l : List (List ℕ)) → Along Before (entries_on k n l)
rises-on k n [] = tt
rises-on k n (w ∷ l) = (each_on (Before (entry k n w)) k (suc n) l (λ m v p q. inr (refl, omega (arith, p))), rises-on k (suc n) l)

lower-on : (k j : Sort) (n m : ℕ) (l r : List (List ℕ)) → kind k < kind j → ToEach (λ (x : Entry). ToEach (Before x) (entries_on j m r)) (entries_on k n l)
lower-on k j n m l r h =
    each_on (λ (x : Entry). ToEach (Before x) (entries_on j m r)) k n l (λ i w p q. each_on (Before (entry k i w)) j m r (λ o v s t. inl h))

rises-table : (g : Given) → Along Before (table_entries g)
rises-table g =
    let c = entries_on Constant 0 (g Constant) in
    let f = entries_on Compound 0 (g Compound) in
    let p = entries_on Predicate 0 (g Predicate) in
    along-append Before c (f ++ p) (rises-on Constant 0 (g Constant))
    (along-append Before f p (rises-on Compound 0 (g Compound)) (rises-on Predicate 0 (g Predicate)) (lower-on Compound Predicate 0 0 (g Compound) (g Predicate) (omega arith)))
    (each_on (λ (x : Entry). ToEach (Before x) (f ++ p)) Constant 0 (g Constant)
    (λ i w q r.
    each_append (Before (entry Constant i w)) f p (each_on (Before (entry Constant i w)) Compound 0 (g Compound) (λ o v s t. inl (omega arith)))
    (each_on (Before (entry Constant i w)) Predicate 0 (g Predicate) (λ o v s t. inl (omega arith)))))

proper-on : (k : Sort) (n : ℕ) (l : List (List ℕ)) → n + length l ≤ 65536 → EachFit l → ToEach Proper (entries_on k n l)
proper-on k n [] h f = tt
proper-on k n (w ∷ l) h f = (record { low = omega arith; fit = f.0 }, proper-on k (suc n) l (omega arith) f.1)

pub other_name : (w v : List ℕ) (l : List (List ℕ)) → within w (v ∷ l) ≡ false → (w ≡ v → ⊥) × (within w l ≡ false)
other_name w v l e =
    cases (same_name w v) (λ h. absurd (true≢false (rw h at e)))
    (λ h. (λ (q : w ≡ v). true≢false (inv (same_refl v) ∙ ap (λ (z : List ℕ). same_name z v) (inv q) ∙ h), rw h at e))

outside-on : (k : Sort) (i n : ℕ) (w : List ℕ) (l : List (List ℕ)) → within w l ≡ false → ToEach (Apart (entry k i w)) (entries_on k n l)
outside-on k i n w [] e = tt
outside-on k i n w (v ∷ l) e = let o = other_name w v l e in (λ q r. o.0 r, outside-on k i (suc n) w l o.1)

apart-on : (k : Sort) (n : ℕ) (l : List (List ℕ)) → NoneTwice l → Along Apart (entries_on k n l)
apart-on k n [] d = tt
apart-on k n (w ∷ l) d = (outside-on k n (suc n) w l d.0, apart-on k (suc n) l d.1)

sorts-apart : (k j : Sort) → (kind k ≡ kind j → ⊥) → (i o : ℕ) (w v : List ℕ) → Apart (entry k i w) (entry j o v)
sorts-apart k j d i o w v e q = absurd (d (ap kind e))

apart-table : (g : Given) → ((k : Sort) → NoneTwice (g k)) → Along Apart (table_entries g)
apart-table g d =
    let c = entries_on Constant 0 (g Constant) in
    let f = entries_on Compound 0 (g Compound) in
    let p = entries_on Predicate 0 (g Predicate) in
    along-append Apart c (f ++ p) (apart-on Constant 0 (g Constant) (d Constant))
    (along-append Apart f p (apart-on Compound 0 (g Compound) (d Compound)) (apart-on Predicate 0 (g Predicate) (d Predicate))
    (each_on (λ (x : Entry). ToEach (Apart x) p) Compound 0 (g Compound)
    (λ i w q r. each_on (Apart (entry Compound i w)) Predicate 0 (g Predicate) (λ o v s t. sorts-apart Compound Predicate (λ (z : 3 ≡ 4). omega arith) i o w v))))
    (each_on (λ (x : Entry). ToEach (Apart x) (f ++ p)) Constant 0 (g Constant)
    (λ i w q r.
    each_append (Apart (entry Constant i w)) f p
    (each_on (Apart (entry Constant i w)) Compound 0 (g Compound) (λ o v s t. sorts-apart Constant Compound (λ (z : 2 ≡ 3). omega arith) i o w v))
    (each_on (Apart (entry Constant i w)) Predicate 0 (g Predicate) (λ o v s t. sorts-apart Constant Predicate (λ (z : 2 ≡ 4). omega arith) i o w v))))

-- "in C-13's form"
pub table-list : (most : ℕ) (g : Given) → GoodTable most g → most ≤ 65536 → IsList (list_of g) (table_entries g)
table-list most g t h =
    record {
      bytes = inv (listed-table g);
      rises = rises-table g;
      proper =
          each_append Proper (entries_on Constant 0 (g Constant)) (entries_on Compound 0 (g Compound) ++ entries_on Predicate 0 (g Predicate))
          (proper-on Constant 0 (g Constant) (omega (arith, t.few Constant)) (t.fit Constant))
          (each_append Proper (entries_on Compound 0 (g Compound)) (entries_on Predicate 0 (g Predicate))
          (proper-on Compound 0 (g Compound) (omega (arith, t.few Compound)) (t.fit Compound)) (proper-on Predicate 0 (g Predicate) (omega (arith, t.few Predicate)) (t.fit Predicate)));
      apart = apart-table g t.apart;
    }

-- What the list calls a symbol

sort-naming : (k : Sort) (m n i : ℕ) (l : List (List ℕ)) (r : List Entry) → m + n ≡ i → naming r k i ≡ [] → naming (entries_on k m l ++ r) k i ≡ get_or l n []
sort-naming k m n i [] r q h = h
sort-naming k m zero i (w ∷ l) r q h = rw (is-sort_self k, eq-eqb i m (omega arith)) refl
sort-naming k m (suc n) i (w ∷ l) r q h = rw (is-sort_self k, ne_eqb i m (λ (e : i ≡ m). omega arith)) (sort-naming k (suc m) n i l r (omega arith) h)

skip : (k j : Sort) (m n : ℕ) (l : List (List ℕ)) (r : List Entry) → is_sort k j ≡ false → naming (entries_on j m l ++ r) k n ≡ naming r k n
skip k j m n [] r h = refl
skip k j m n (w ∷ l) r h = rw h (skip k j (suc m) n l r h)

last_skip : (k j : Sort) (n : ℕ) (l : List (List ℕ)) → is_sort k j ≡ false → naming (entries_on j 0 l) k n ≡ []
last_skip k j n l h = ap (λ (r : List Entry). naming r k n) (inv (append-nil (entries_on j 0 l))) ∙ skip k j 0 n l [] h

pub table-naming : (g : Given) (k : Sort) (n : ℕ) → naming (table_entries g) k n ≡ get_or (g k) n []
table-naming g Constant n = sort-naming Constant 0 n n (g Constant) _ (omega arith) (skip Constant Compound 0 n (g Compound) _ refl ∙ last_skip Constant Predicate n (g Predicate) refl)
table-naming g Compound n = skip Compound Constant 0 n (g Constant) _ refl ∙ sort-naming Compound 0 n n (g Compound) _ (omega arith) (last_skip Compound Predicate n (g Predicate) refl)
table-naming g Predicate n =
    skip Predicate Constant 0 n (g Constant) _ refl ∙ skip Predicate Compound 0 n (g Compound) _ refl
    ∙ ap (λ (l : List Entry). naming l Predicate n) (inv (append-nil (entries_on Predicate 0 (g Predicate)))) ∙ sort-naming Predicate 0 n n (g Predicate) [] (omega arith) refl
