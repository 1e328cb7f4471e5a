-- Marks set along the records of an image: what is counted is how many distinct numbers there are.
use Prim.Native.Nat.{ℕ, suc, ◌+◌, ◌≤◌, ◌<◌}
use native.Mathlib.Omega.{arith}
use native.Mathlib.Nat.{zero-add}
use native.Mathlib.Decide.{ℕ_discrete}
use borrow.Author.Tests.{eq-eqb, ne_eqb, eqb-true, eqb-false}
use mathlib.Core.Path.{◌≡◌, refl, sym as inv, ap, subst, ◌∙◌}
use mathlib.Core.Bool.{Bool, true, false}
use mathlib.Core.Logic.{◌↔◌, ◌⊎◌, inl, inr}
use mathlib.Core.List.{List, [], ◌∷◌, ◌++◌}
use lib.ListN.{length, get_or, set, drop, length-drop}
use lib.Dec.{eqb}
use Rattle.terms.specs.Node.{constant, compound, predicate, var, sym, Expr}
use Rattle.terms.specs.Cases.{cases}
use Rattle.search.specs.Next as Next
use Rattle.words.specs.Flat.{flat}
use Rattle.terms.specs.When.{◌⇒◌∣◌}
use Rattle.loops.proofs.Finite.{Listed}
use Rattle.format.specs.declared.Record.{Record}
use Rattle.format.specs.declared.Record.TheVariants.{Variable, Constant, Compound, Formula, Clause, Goal, End}
use Rattle.format.specs.Reading.{body_length, number_at, record_at}
use Rattle.format.specs.Format.{record_kind, encode, node_records, book_records}
use Rattle.format.specs.Arities.{Memory, nothing_met, meet, recalled, uses_of}
use Rattle.format.specs.ArityLaws.{meet-same, meet-other, recalled-set}
use Rattle.format.proofs.Encoded.{Encoded, encoded}
use Rattle.flatness.proofs.Refusals.{one-row}
use Rattle.flatness.specs.Counts.{Apart, Count, node_constants, constants_in}
use Rattle.flatness.proofs.CountLaws.{numbers}
use Rattle.flatness.specs.declared.counting.Counted.{Counted}
use Rattle.flatness.specs.declared.counting.Counted.TheVariants.{Constants, Predicates}
use Rattle.flatness.specs.Marks.{kind_of, number_of, numbers_of, fresh, new_at, marked, new_ones}

pub two_or_four : (what : Counted) → (kind_of what ≡ 2) ⊎ (kind_of what ≡ 4)
two_or_four Constants = inl refl
two_or_four Predicates = inr refl

-- How many are new is how many are distinct.

abbrev firsts : Memory → List ℕ → List ℕ
firsts m [] = []
firsts m (x ∷ xs) = eqb (m x) 0 ⇒ x ∷ firsts (meet m x 0) xs ∣ firsts m xs

firsts-long : (m : Memory) (xs : List ℕ) → length (firsts m xs) ≡ fresh m xs
firsts-long m [] = refl
firsts-long m (x ∷ xs) = cases (eqb (m x) 0) (λ p. simp p (ap suc (firsts-long (meet m x 0) xs))) (λ p. simp p (firsts-long m xs))

-- the members that had no mark
firsts-listed : (m : Memory) (xs : List ℕ) (y : ℕ) → Listed y (firsts m xs) ↔ (Listed y xs × (m y ≡ 0))
firsts-listed m [] y = (λ i. absurd i, λ i. absurd i.0)
firsts-listed m (x ∷ xs) y = cases (eqb (m x) 0)
    (λ p.
    let z = eqb-true (m x) 0 p in
    let q = firsts-listed (meet m x 0) xs y in
    simp p (
      elim [
        | inl e ↦ (inl e, ap m e ∙ z)
        | inr i ↦ (
            let (j, w) = q.0 i in
            (inr j, elim (ℕ_discrete y x) [ yes e ↦ ap m e ∙ z | no n ↦ inv (meet-other m x 0 y n) ∙ w ]))
      ],
      λ (i, w). elim (ℕ_discrete y x) [ yes e ↦ inl e | no n ↦ inr (q.1 (elim i [ inl e ↦ absurd (n e) | inr j ↦ j ], meet-other m x 0 y n ∙ w)) ],
    ))
    (λ p.
    let z = eqb-false (m x) 0 p in
    let q = firsts-listed m xs y in
    simp p (
      λ i. let (j, w) = q.0 i in (inr j, w),
      λ (i, w). q.1 (elim i [ inl e ↦ absurd (z (ap m (inv e) ∙ w)) | inr j ↦ j ], w),
    ))

firsts-apart : (m : Memory) (xs : List ℕ) → Apart (firsts m xs)
firsts-apart m [] = tt
firsts-apart m (x ∷ xs) =
    cases (eqb (m x) 0)
    (λ p. simp p (λ i. let w = ((firsts-listed (meet m x 0) xs x).0 i).1 in omega (arith, w, meet-same m x 0), firsts-apart (meet m x 0) xs))
    (λ p. simp p (firsts-apart m xs))

pub count-fresh : (xs : List ℕ) → Count xs (fresh nothing_met xs)
count-fresh xs = record {
  list = firsts nothing_met xs;
  apart = firsts-apart nothing_met xs;
  members = λ y. (λ i. ((firsts-listed nothing_met xs y).0 i).0, λ i. (firsts-listed nothing_met xs y).1 (i, refl));
  count = firsts-long nothing_met xs;
}

-- The record at a place

module _ (s : List ℕ) (at : ℕ) (r : Record) (l : List ℕ) (b : Encoded s at r l) where
  number_is : (record_kind r ≡ 2) ⊎ (record_kind r ≡ 4) → number_at s (at + 1) ≡ number_of r
  unfolding record_at
  number_is k = go r b.item k
    where
      go : (r : Record) → record_at s at (record_kind r) ≡ r → (record_kind r ≡ 2) ⊎ (record_kind r ≡ 4) → number_at s (at + 1) ≡ number_of r
      go (Constant c) e k = ap number_of e
      go (Formula p n) e k = ap number_of e
      go (Variable v) e (inl k) = absurd (omega arith)
      go (Variable v) e (inr k) = absurd (omega arith)
      go (Compound f n) e (inl k) = absurd (omega arith)
      go (Compound f n) e (inr k) = absurd (omega arith)
      go (Clause n) e (inl k) = absurd (omega arith)
      go (Clause n) e (inr k) = absurd (omega arith)
      go (Goal n) e (inl k) = absurd (omega arith)
      go (Goal n) e (inr k) = absurd (omega arith)
      go End e (inl k) = absurd (omega arith)
      go End e (inr k) = absurd (omega arith)

  -- what is new at it, and what is new behind it
  fresh-next : (kind : ℕ) (m : Memory) (rs : List Record) → (kind ≡ 2) ⊎ (kind ≡ 4) → new_ones kind m s at + fresh (marked kind m s at) (numbers_of kind rs) ≡ fresh m (numbers_of kind (r ∷ rs))
  unfolding new_ones marked new_at
  fresh-next kind m rs k = cases (eqb (record_kind r) kind)
      (λ p.
      let q = eqb-true (record_kind r) kind p in
      let n = number_is (subst (λ (x : ℕ). (x ≡ 2) ⊎ (x ≡ 4)) (inv q) k) in
      cases (eqb (m (number_of r)) 0) (λ z. simp (b.kind, p, n, z) (omega arith)) (λ z. simp (b.kind, p, n, z) (omega arith)))
      (λ p. simp (b.kind, p) (omega arith))

pub new-one : (kind : ℕ) (m : Memory) (s : List ℕ) (at : ℕ) → new_ones kind m s at ≤ 1
unfolding new_ones
new-one kind m s at = cases (new_at kind m s at) (λ p. simp p (omega arith)) (λ p. simp p (omega arith))

-- where the counting stands
pub record Counting (kind : ℕ) (s : List ℕ) (m : Memory) (count at : ℕ) : Type 0 where
  pub left : List Record
  pub there : drop at s ≡ encode left
  pub few : count ≤ at
  pub same : (rs : List Record) → s ≡ encode rs → count + fresh m (numbers_of kind left) ≡ fresh nothing_met (numbers_of kind rs)

module _ (kind : ℕ) (s : List ℕ) where
  pub counting-start : (m : Memory) → m ≡ nothing_met → (rs : List Record) → s ≡ encode rs → Counting kind s m 0 0
  counting-start m e rs i = record {
    left = rs;
    there = i;
    few = omega arith;
    same = λ rs' i'. zero-add (fresh m (numbers_of kind rs)) ∙ ap (λ (x : Memory). fresh x (numbers_of kind rs)) e ∙ ap (λ (x : List Record). fresh nothing_met (numbers_of kind x)) (one-row s rs rs' i i');
  }

  counting-here : (m : Memory) (count at : ℕ) → Counting kind s m count at → at < length s → (r : Record) × (rs : List Record) × Encoded s at r (encode rs) ×
      ((count' : ℕ) (m' : Memory) → (rest : count' + fresh m' (numbers_of kind rs) ≡ count + fresh m (numbers_of kind (r ∷ rs))) → count' ≤ at + 1 + body_length (record_kind r) → Counting kind s m' count' (at + 1 + body_length (record_kind r)))
  counting-here m count at c l = go c.left c.there c.same
    where
      go : (rs : List Record) → drop at s ≡ encode rs → ((xs : List Record) → s ≡ encode xs → count + fresh m (numbers_of kind rs) ≡ fresh nothing_met (numbers_of kind xs)) → (r : Record) × (rs : List Record) × Encoded s at r (encode rs) ×
          ((count' : ℕ) (m' : Memory) → (rest : count' + fresh m' (numbers_of kind rs) ≡ count + fresh m (numbers_of kind (r ∷ rs))) → count' ≤ at + 1 + body_length (record_kind r) → Counting kind s m' count' (at + 1 + body_length (record_kind r)))
      go [] e f = absurd (omega (arith, l, length-drop at s, ap length e))
      go (r ∷ rs) e f =
          let b = encoded s at r (encode rs) e in
          (r, rs, b, λ count' m' q few. record { left = rs; there = b.later; few = few; same = λ xs i. q ∙ f xs i })

  -- the body of the record at a place is there
  pub counting-body : (m : Memory) (count at : ℕ) → Counting kind s m count at → at < length s → at + body_length (get_or s at 0) < length s
  counting-body m count at c l = let (r, rs, b, on) = counting-here m count at c l in rw b.kind (omega (arith, b.body))

  pub counting-next : (m m' : Memory) (count new at at' : ℕ) → Counting kind s m count at → (kind ≡ 2) ⊎ (kind ≡ 4) → at < length s → new ≡ new_ones kind m s at → m' ≡ marked kind m s at →
      at' ≡ at + 1 + body_length (get_or s at 0) → Counting kind s m' (count + new) at'
  counting-next m m' count new at at' c k l n e f =
      let (r, rs, b, on) = counting-here m count at c l in
      let q = fresh-next s at r (encode rs) b kind m rs k in
      let w : at' ≡ at + 1 + body_length (record_kind r) = f ∙ ap (λ (x : ℕ). at + 1 + body_length x) b.kind in
      let z : (count + new) + fresh m' (numbers_of kind rs) ≡ count + fresh m (numbers_of kind (r ∷ rs)) = rw (e, n) (omega (arith, q)) in
      rw w (on (count + new) m' z (omega (arith, n, new-one kind m s at, c.few)))

  pub counting-end : (m : Memory) (count at : ℕ) → Counting kind s m count at → length s ≤ at → (rs : List Record) → s ≡ encode rs → count ≡ fresh nothing_met (numbers_of kind rs)
  counting-end m count at c l rs i = go c.left c.there (c.same rs i)
    where
      go : (xs : List Record) → drop at s ≡ encode xs → count + fresh m (numbers_of kind xs) ≡ fresh nothing_met (numbers_of kind rs) → count ≡ fresh nothing_met (numbers_of kind rs)
      go [] e f = omega (arith, f)
      go (r ∷ xs) e f = absurd (omega (arith, (encoded s at r (encode xs) e).body))

pub ruleset counts = (counting-body, counting-next, counting-end)

-- What `mark` does, by its tests.
module _ (kind : ℕ) (s : List ℕ) (at : ℕ) where
  -- what it answers, as what is counted
  pub one_new : (m : Memory) (b : Bool) → b ≡ new_at kind m s at → b ≡ true → 1 ≡ new_ones kind m s at
  unfolding new_ones
  one_new m b e t = simp (← e, t)

  pub none_new : (m : Memory) (b : Bool) → b ≡ new_at kind m s at → b ≡ false → 0 ≡ new_ones kind m s at
  unfolding new_ones
  none_new m b e t = simp (← e, t)

  pub other-kind : (m : Memory) → (get_or s at 0 ≡ kind → ⊥) → (false ≡ new_at kind m s at) × (m ≡ marked kind m s at)
  unfolding marked new_at
  other-kind m n = simp (ne_eqb (get_or s at 0) kind n) (refl, refl)

  module _ (e : get_or s at 0 ≡ kind) (n : ℕ) (is : n ≡ number_at s (at + 1)) where
    pub not_new : (m : Memory) → (m n ≡ 0 → ⊥) → (false ≡ new_at kind m s at) × (m ≡ marked kind m s at)
    unfolding marked new_at
    not_new m o = simp (eq-eqb (get_or s at 0) kind e, inv is, ne_eqb (m n) 0 o) (refl, refl)

    pub new-here : (table : List ℕ) → n < length table → get_or table n 0 ≡ 0 → (true ≡ new_at kind (recalled table) s at) × (recalled (set table n 1) ≡ marked kind (recalled table) s at)
    unfolding marked new_at
    new-here table l o = simp (eq-eqb (get_or s at 0) kind e, inv is, eq-eqb (get_or table n 0) 0 o) (refl, recalled-set table n 0 l)

  -- the body of a record of such a kind has a number
  pub body-two : get_or s at 0 ≡ kind → (kind ≡ 2) ⊎ (kind ≡ 4) → at + body_length (get_or s at 0) < length s → at + 2 < length s
  unfolding body_length
  body-two e (inl k) l = let q : get_or s at 0 ≡ 2 = e ∙ k in rw q at l
  body-two e (inr k) l = let q : get_or s at 0 ≡ 4 = e ∙ k in let h : at + 3 < length s = rw q at l in omega (arith, h)

-- The numbers of a book's records are those of its predicates and of its constants.

pub numbers_4 : (rs : List Record) → numbers_of 4 rs ≡ numbers (uses_of rs)
numbers_4 [] = refl
numbers_4 (Variable v ∷ rs) = numbers_4 rs
numbers_4 (Constant c ∷ rs) = numbers_4 rs
numbers_4 (Compound f n ∷ rs) = numbers_4 rs
numbers_4 (Formula p n ∷ rs) = ap (λ (l : List ℕ). p ∷ l) (numbers_4 rs)
numbers_4 (Clause n ∷ rs) = numbers_4 rs
numbers_4 (Goal n ∷ rs) = numbers_4 rs
numbers_4 (End ∷ rs) = numbers_4 rs

numbers_2 : (e : Expr) (rs : List Record) → numbers_of 2 (node_records e ++ rs) ≡ node_constants e ++ numbers_of 2 rs
numbers_2 [] rs = refl
numbers_2 (var v ∷ e) rs = numbers_2 e rs
numbers_2 (sym (constant c) ∷ e) rs = ap (λ (l : List ℕ). c ∷ l) (numbers_2 e rs)
numbers_2 (sym (compound f n) ∷ e) rs = numbers_2 e rs
numbers_2 (sym (predicate p n) ∷ e) rs = numbers_2 e rs

pub book-numbers_2 : (b : Next.Book) → numbers_of 2 (book_records b) ≡ constants_in b
book-numbers_2 [] = refl
book-numbers_2 (c ∷ b) = numbers_2 (flat (c.head ∷ c.body)) (book_records b) ∙ ap (λ (l : List ℕ). node_constants (flat (c.head ∷ c.body)) ++ l) (book-numbers_2 b)
