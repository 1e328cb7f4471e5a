-- How many distinct things a list has is one number; and what is computed is that number.
use Rattle.std.specs.Prelude.{ℕ, suc, ◌≤◌, ◌≡◌, refl, ◌↔◌, Bool, true, false, List, [], ◌∷◌, map, length, eqb}
use Rattle.std.proofs.Common.{arith, eq-eqb, eqb-true, sym as inv, ap, subst, ◌∙◌, inl, inr}
use Rattle.std.proofs.lemmas.List.{length-map}
use Rattle.terms.specs.Cases.{cases}
use Rattle.loops.proofs.Finite.{Listed}
use Rattle.search.specs.Next as Next
use Rattle.format.specs.Arities.{Use, Used, OneArity, book_uses}
use Rattle.flatness.specs.Counts.{Apart, Count, among, distinct, same_use, constants_in, book_predicates, book_constants}

-- One number

-- a list without x
record Less {A : Type 0} (x : A) (l : List A) : Type 0 where
  left : List A
  fewer : length l ≡ suc (length left)
  stays : (y : A) → Listed y l → (y ≡ x → ⊥) → Listed y left

less : {A : Type 0} (x : A) (l : List A) → Listed x l → Less x l
less x (z ∷ l) (inl p) = record { left = l; fewer = refl; stays = λ y. elim [ inl e ↦ λ n. absurd (n (e ∙ inv p)) | inr m ↦ λ n. m ] }
less x (z ∷ l) (inr m) =
    let r = less x l m in
    record { left = z ∷ r.left; fewer = ap suc r.fewer; stays = λ y. elim [ inl e ↦ λ n. inl e | inr k ↦ λ n. inr (r.stays y k n) ] }
less {A = A} x [] x'' = elim x'' [ ]

-- a list without repeats is no longer than one that has its members
apart-short : {A : Type 0} (a b : List A) → Apart a → ((x : A) → Listed x a → Listed x b) → length a ≤ length b
apart-short [] b p f = omega arith
apart-short (x ∷ a) b p f =
    let r = less x b (f x (inl refl)) in
    omega (arith, r.fewer, apart-short a r.left p.1 (λ y i. r.stays y (f y (inr i)) (λ e. p.0 (subst (λ z. Listed z a) e i))))

pub count-one : {A : Type 0} {xs : List A} {n n' : ℕ} → Count xs n → Count xs n' → n ≡ n'
count-one c c' =
    let l = apart-short c.list c'.list c.apart (λ x i. (c'.members x).1 ((c.members x).0 i)) in
    let k = apart-short c'.list c.list c'.apart (λ x i. (c.members x).1 ((c'.members x).0 i)) in
    omega (arith, l, k, c.count, c'.count)

-- What is computed

module _ {A : Type 0} (same : A → A → Bool) (sound : (x y : A) → same x y ≡ true → x ≡ y) (complete : (x y : A) → x ≡ y → same x y ≡ true) where
  among-listed : (x : A) (xs : List A) → among same x xs ≡ true → Listed x xs
  among-listed x [] e = let z : false ≡ true = e in absurd (let w : ◌≡◌ {A = ℕ} 0 1 = cc in let v : ⊥ = omega arith in v)
  among-listed x (y ∷ xs) e = cases (same x y) (λ p. inl (sound x y p)) (λ p. inr (among-listed x xs (simp p at e)))

  listed-among : (x : A) (xs : List A) → Listed x xs → among same x xs ≡ true
  listed-among x (y ∷ xs) (inl e) = simp (complete x y e)
  listed-among x (y ∷ xs) (inr i) = cases (same x y) (λ p. simp p) (λ p. simp p (listed-among x xs i))
  listed-among x [] x'' = elim x'' [ ]

  distinct-listed : (x : A) (xs : List A) → Listed x (distinct same xs) ↔ Listed x xs
  distinct-listed x [] = (λ i. i, λ i. i)
  distinct-listed x (y ∷ xs) =
      let q = distinct-listed x xs in
      cases (among same y xs)
      (λ p. simp p (λ i. inr (q.0 i), elim [ inl e ↦ q.1 (subst (λ z. Listed z xs) (inv e) (among-listed y xs p)) | inr i ↦ q.1 i ]))
      (λ p. simp p (elim [ inl e ↦ inl e | inr i ↦ inr (q.0 i) ], elim [ inl e ↦ inl e | inr i ↦ inr (q.1 i) ]))

  distinct_apart : (xs : List A) → Apart (distinct same xs)
  distinct_apart [] = tt
  distinct_apart (y ∷ xs) =
      cases (among same y xs)
      (λ p. simp p (distinct_apart xs))
      (λ p. simp p (λ i. let t = listed-among y xs ((distinct-listed y xs).0 i) in absurd (let w : ◌≡◌ {A = ℕ} 0 1 = cc in let v : ⊥ = omega arith in v), distinct_apart xs))

  count-distinct : (xs : List A) → Count xs (length (distinct same xs))
  count-distinct xs = record { list = distinct same xs; apart = distinct_apart xs; members = λ x. distinct-listed x xs; count = refl }

  distinct-few : (xs : List A) → length (distinct same xs) ≤ length xs
  distinct-few [] = omega arith
  distinct-few (y ∷ xs) = let f = distinct-few xs in cases (among same y xs) (λ p. simp p (omega (arith, f))) (λ p. simp p (omega (arith, f)))

-- Numbers, and uses

number-sound : (x y : ℕ) → eqb x y ≡ true → x ≡ y
number-sound x y e = eqb-true x y e

number-complete : (x y : ℕ) → x ≡ y → eqb x y ≡ true
number-complete x y e = eq-eqb x y e

count-numbers : (xs : List ℕ) → Count xs (length (distinct eqb xs))
count-numbers xs = count-distinct eqb number-sound number-complete xs

use-sound : (u v : Use) → same_use u v ≡ true → u ≡ v
use-sound u v e = cases (eqb u.number v.number)
    (λ p. let q = eqb-true u.number v.number p in let a = eqb-true u.arity v.arity (simp p at e) in λ i. record { number = q i; arity = a i })
    (λ p. let z : false ≡ true = simp p at e in absurd (let w : ◌≡◌ {A = ℕ} 0 1 = cc in let v : ⊥ = omega arith in v))

use-complete : (u v : Use) → u ≡ v → same_use u v ≡ true
use-complete u v e = simp (eq-eqb u.number v.number (ap (λ (x : Use). x.number) e), eq-eqb u.arity v.arity (ap (λ (x : Use). x.arity) e))

-- what is among the distinct ones of a list is what is of the list
pub distinct-use : (u : Use) (us : List Use) → Listed u (distinct same_use us) ↔ Listed u us
distinct-use u us = distinct-listed same_use use-sound use-complete u us

pub distinct-number : (c : ℕ) (cs : List ℕ) → Listed c (distinct eqb cs) ↔ Listed c cs
distinct-number c cs = distinct-listed eqb number-sound number-complete c cs

-- "how many distinct predicates and constants the book has"
pub predicates-counted : (b : Next.Book) → Count (book_uses b) (book_predicates b)
unfolding book_predicates
predicates-counted b = count-distinct same_use use-sound use-complete (book_uses b)

pub constants-counted : (b : Next.Book) → Count (constants_in b) (book_constants b)
unfolding book_constants
constants-counted b = count-numbers (constants_in b)

pub predicates_few : (b : Next.Book) → book_predicates b ≤ length (book_uses b)
unfolding book_predicates
predicates_few b = distinct-few same_use use-sound use-complete (book_uses b)

pub constants_few : (b : Next.Book) → book_constants b ≤ length (constants_in b)
unfolding book_constants
constants_few b = distinct-few eqb number-sound number-complete (constants_in b)

-- Where a number is used with one arity, uses are as many as their numbers.

abbrev pub numbers : List Use → List ℕ
numbers us = map (λ (u : Use). u.number) us

listed-used : (u : Use) (us : List Use) → Listed u us → Used u.number u.arity us
listed-used u (v ∷ us) (inl e) = inl (ap (λ (x : Use). x.number) (inv e), ap (λ (x : Use). x.arity) (inv e))
listed-used u (v ∷ us) (inr i) = inr (listed-used u us i)
listed-used u [] x' = elim x' [ ]

listed-number : (u : Use) (us : List Use) → Listed u us → Listed u.number (numbers us)
listed-number u (v ∷ us) (inl e) = inl (ap (λ (x : Use). x.number) e)
listed-number u (v ∷ us) (inr i) = inr (listed-number u us i)
listed-number u [] x' = elim x' [ ]

number-listed : (p : ℕ) (us : List Use) → Listed p (numbers us) → (u : Use) × Listed u us × (u.number ≡ p)
number-listed p (v ∷ us) (inl e) = (v, inl refl, inv e)
number-listed p (v ∷ us) (inr i) = let (u, j, e) = number-listed p us i in (u, inr j, e)
number-listed p [] x' = elim x' [ ]

module _ (us : List Use) (one : OneArity us) where
  same_number : (u v : Use) → Listed u us → Listed v us → u.number ≡ v.number → u ≡ v
  same_number u v i j e =
      let a = one v.number u.arity v.arity (subst (λ p. Used p u.arity us) e (listed-used u us i)) (listed-used v us j) in
      λ k. record { number = e k; arity = a k }

  numbers_apart : (l : List Use) → ((u : Use) → Listed u l → Listed u us) → Apart l → Apart (numbers l)
  numbers_apart [] f p = tt
  numbers_apart (u ∷ l) f p = (
    λ i. let (v, j, e) = number-listed u.number l i in p.0 (subst (λ x. Listed x l) (same_number v u (f v (inr j)) (f u (inl refl)) e) j),
    numbers_apart l (λ v i. f v (inr i)) p.1,
  )

  pub count-by-number : {n : ℕ} → Count us n → Count (numbers us) n
  count-by-number c = record {
    list = numbers c.list;
    apart = numbers_apart c.list (λ u i. (c.members u).0 i) c.apart;
    members = λ p. (
      λ i. let (u, j, e) = number-listed p c.list i in subst (λ x. Listed x (numbers us)) e (listed-number u us ((c.members u).0 j)),
      λ i. let (u, j, e) = number-listed p us i in subst (λ x. Listed x (numbers c.list)) e (listed-number u c.list ((c.members u).1 j)),
    );
    count = length-map c.list (λ (u : Use). u.number) ∙ c.count;
  }
