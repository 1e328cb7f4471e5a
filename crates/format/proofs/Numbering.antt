-- Variables that each are at most the next unused one are numbered by first appearance, and the other way round.
use Prim.Native.Nat.{ℕ, zero, suc, ◌+◌, ◌≤◌, ◌<◌, zero-le}
use native.Mathlib.Omega.{arith}
use native.Mathlib.Numerals.{add-one}
use borrow.Author.Tests.{ltb-true, ltb-false, eqb-true, eqb-false, eq-eqb, ne_eqb}
use mathlib.Core.Path.{◌≡◌, refl, sym as inv, ap, ap₂, ◌∙◌}
use mathlib.Core.Bool.{true, false}
use mathlib.Core.List.{List, [], ◌∷◌, ◌++◌, head-eq_of_cons-eq, tail-eq_of_cons-eq}
use lib.ListN.{length}
use lib.Dec.{eqb, ltb}
use Rattle.terms.specs.Node.{var, sym, Expr}
use Rattle.terms.specs.Cases.{cases}
use Rattle.terms.specs.Number.{place, within, grow, seen_after, number, number_all, Numbered}
use Rattle.terms.proofs.NumberLaws.{number-length, place-last}
use Rattle.search.specs.Next.{Goal}
use Rattle.words.specs.Flat.{flat, flat-number}
use Rattle.format.specs.Reading.{next_unused}

-- A goal's formulas are numbered as one expression is.

-- two lists in one, split where the first ends
parted : (a b c d : Expr) → length a ≡ length b → a ++ c ≡ b ++ d → (a ≡ b) × (c ≡ d)
parted [] [] c d l e = (refl, e)
parted [] (y ∷ b) c d l e = absurd (omega arith)
parted (x ∷ a) [] c d l e = absurd (omega arith)
parted (x ∷ a) (y ∷ b) c d l e = let p = parted a b c d (omega arith) (tail-eq_of_cons-eq e) in (ap₂ ◌∷◌ (head-eq_of_cons-eq e) p.0, p.1)

unflat : (seen : List ℕ) (g : Goal) → flat (number_all seen g) ≡ flat g → number_all seen g ≡ g
unflat seen [] e = refl
unflat seen (f ∷ g) e = let p = parted (number seen f) f (flat (number_all (seen_after seen f) g)) (flat g) (number-length seen f) e in ap₂ ◌∷◌ p.0 (unflat (seen_after seen f) g p.1)

-- The numbers below n, as they are seen.

-- from i on, n of them
range : ℕ → ℕ → List ℕ
range i zero = []
range i (suc n) = i ∷ range (suc i) n

range_last : (i n : ℕ) → range i n ++ ((i + n) ∷ []) ≡ range i (suc n)
unfolding range
range_last i zero = ap (λ (k : ℕ). k ∷ []) (omega arith)
range_last i (suc n) = ap (λ (l : List ℕ). i ∷ l) (ap (λ (k : ℕ). range (suc i) n ++ (k ∷ [])) (let q : i + suc n ≡ suc i + n = omega arith in q) ∙ range_last (suc i) n)

length-range : (i n : ℕ) → length (range i n) ≡ n
unfolding range
length-range i zero = refl
length-range i (suc n) = ap suc (length-range (suc i) n)

within-range : (i n v : ℕ) → i ≤ v → v < i + n → within v (range i n) ≡ true
unfolding range
within-range i zero v p q = absurd (omega arith)
within-range i (suc n) v p q =
    cases (eqb v i) (λ e. rw (e, within)) (λ e. rw (e, within) (within-range (suc i) n v (omega (arith, eqb-false v i e)) (omega arith)))

outside-range : (i n v : ℕ) → i + n ≤ v → within v (range i n) ≡ false
unfolding range
outside-range i zero v p = refl
outside-range i (suc n) v p = rw (ne_eqb v i (λ e. omega arith), within) (outside-range (suc i) n v (omega arith))

place-range : (i n v : ℕ) → i ≤ v → v < i + n → i + place v (range i n) ≡ v
unfolding range
place-range i zero v p q = absurd (omega arith)
place-range i (suc n) v p q =
    cases (eqb v i)
    (λ e. rw (e, place) (omega (arith, eqb-true v i e)))
    (λ e. rw (e, place) (omega (arith, place-range (suc i) n v (omega (arith, eqb-false v i e)) (omega arith))))

-- One variable that is taken: those seen grow with the next unused one.

-- each variable is at most the next unused one, u at first
abbrev pub Ordered : ℕ → Expr → Type 0
Ordered u [] = Unit
Ordered u (var v ∷ e) = (v ≤ u) × Ordered (next_unused u v) e
Ordered u (sym s ∷ e) = Ordered u e

pub unused-same : (u v : ℕ) → v ≡ u → next_unused u v ≡ suc u
unfolding next_unused
unused-same u v e = simp (eq-eqb v u e) (add-one u)

pub unused-other : (u v : ℕ) → (v ≡ u → ⊥) → next_unused u v ≡ u
unfolding next_unused
unused-other u v d = simp (ne_eqb v u d)

-- what is seen, and where v stands then
record Grown (u v : ℕ) : Type 0 where
  seen : grow (range 0 u) v ≡ range 0 (next_unused u v)
  at : place v (range 0 (next_unused u v)) ≡ v

grown : (u v : ℕ) → v ≤ u → Grown u v
grown u v h = cases (eqb v u)
    (λ e.
    let p = eqb-true v u e in
    let n = unused-same u v p in
    record {
      seen = rw (outside-range 0 u v (omega arith), grow, n) (ap (λ (k : ℕ). range 0 u ++ (k ∷ [])) (let q : v ≡ 0 + u = omega arith in q) ∙ range_last 0 u);
      at = rw n (let q = place-range 0 (suc u) v zero-le (omega arith) in omega arith);
    })
    (λ e.
    let d = eqb-false v u e in
    let n = unused-other u v d in
    record {
      seen = rw (within-range 0 u v zero-le (omega arith), grow, n);
      at = rw n (let q = place-range 0 u v zero-le (omega arith) in omega arith);
    })

number-var : (u v : ℕ) (e : Expr) → v ≤ u → number (range 0 u) (var v ∷ e) ≡ var v ∷ number (range 0 (next_unused u v)) e
number-var u v e h = let g = grown u v h in rw (g.seen, g.at)

number-ordered : (u : ℕ) (e : Expr) → Ordered u e → number (range 0 u) e ≡ e
number-ordered u [] o = refl
number-ordered u (sym s ∷ e) o = rw (number-ordered u e o)
number-ordered u (var v ∷ e) o = number-var u v e o.0 ∙ rw (number-ordered (next_unused u v) e o.1)

pub numbered : (g : Goal) → Ordered 0 (flat g) → Numbered g
unfolding range
numbered g o = unflat [] g (flat-number [] g ∙ number-ordered 0 (flat g) o)

-- And the other way round.

not-high : (u v : ℕ) (e : Expr) → number (range 0 u) (var v ∷ e) ≡ var v ∷ e → v ≤ u
not-high u v e q = cases (ltb u v) high (λ p. ltb-false u v p)
  where
    high : ltb u v ≡ true → v ≤ u
    high p =
        let h = ltb-true u v p in
        let o = outside-range 0 u v (omega arith) in
        let k : place v (grow (range 0 u) v) ≡ v = cc in
        absurd (omega (arith, length-range 0 u, place-last v (range 0 u) o, rw (o, grow) at k))

ordered-number : (u : ℕ) (e : Expr) → number (range 0 u) e ≡ e → Ordered u e
ordered-number u [] q = tt
ordered-number u (sym s ∷ e) q = ordered-number u e cc
ordered-number u (var v ∷ e) q = let h = not-high u v e q in let n = number-var u v e h in (h, ordered-number (next_unused u v) e (cc))

pub ordered : (g : Goal) → Numbered g → Ordered 0 (flat g)
unfolding range
ordered g n = ordered-number 0 (flat g) (inv (flat-number [] g) ∙ ap flat n)
