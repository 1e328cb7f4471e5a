-- How few formulas can stand leftmost in a flat run (document 02, C-20), by the counts of predicates and constants and the largest arity.
use Rattle.std.specs.Prelude.{ℕ, zero, suc, ◌+◌, ◌*◌, ◌^◌, ◌≤◌, ◌≡◌, refl, List, [], ◌∷◌, map, length}
use Rattle.std.proofs.Common.{arith, le_refl, le_trans, pow-suc, mul_comm, suc-mul, sym as inv, ap, ap₂, ◌∙◌, inl, inr, length-append}
use Rattle.std.proofs.Math.Decide.{dec_lt}
use Rattle.std.proofs.Math.Nat.{pow-zero, pow-le-pow_left, pow-le-pow_right}
use Rattle.std.proofs.lemmas.List.{length-map}
use Rattle.terms.specs.Node.{Symbol, constant, compound, predicate, arity, sym, Node, Expr}
use Rattle.loops.proofs.Finite.{Listed}
use Rattle.flat.specs.Formulas.{before, words, variables, letters, of_predicate, formulas}

before-many : (ls : List Node) (ws : List Expr) → length (before ls ws) ≡ length ls * length ws
before-many [] ws = omega arith
before-many (x ∷ ls) ws =
    length-append (map (λ w. x ∷ w) ws) (before ls ws) ∙ ap₂ ◌+◌ (length-map ws (λ (w : Expr). x ∷ w)) (before-many ls ws) ∙ omega (arith, suc-mul (length ls) (length ws))

words-many : (ls : List Node) (n : ℕ) → length (words ls n) ≡ length ls ^ n
words-many ls zero = inv (pow-zero (length ls))
words-many ls (suc n) = before-many ls (words ls n) ∙ ap (λ (k : ℕ). length ls * k) (words-many ls n) ∙ mul_comm (length ls) (length ls ^ n) ∙ inv (pow-suc (length ls) n)

variables-many : (n : ℕ) → length (variables n) ≡ n
variables-many zero = refl
variables-many (suc n) = ap suc (variables-many n)

letters-many : (n : ℕ) (cs : List ℕ) → length (letters n cs) ≡ n + length cs
letters-many n cs = length-append (variables n) (map (λ c. sym (constant c)) cs) ∙ ap₂ ◌+◌ (variables-many n) (length-map cs (λ (c : ℕ). sym (constant c)))

-- a power of no more than another
power : (a most k : ℕ) → a ≤ most → (a + k) ^ a ≤ (most + k) ^ most
power a most k l = elim (dec_lt 0 (most + k)) [
  | yes p ↦ le_trans (pow-le-pow_left {n = a + k} {m = most + k} (omega arith) a) (pow-le-pow_right p l)
  | no n ↦ (let e : a ≡ most = omega arith in rw e (le_refl ((most + k) ^ most)))
]

module _ (most : ℕ) (cs : List ℕ) where
  of-predicate-few : (s : Symbol) → arity s ≤ most → length (of_predicate cs s) ≤ (most + length cs) ^ most
  of-predicate-few (constant c) l = omega arith
  of-predicate-few (compound f n) l = omega arith
  of-predicate-few (predicate p a) l =
      let e = length-map (words (letters a cs) a) (λ (e : Expr). sym (predicate p a) ∷ e) ∙ words-many (letters a cs) a ∙ ap (λ (n : ℕ). n ^ a) (letters-many a cs) in
      omega (arith, e, power a most (length cs) l)

  -- the list of them is no longer than this
  pub formulas-few : (ps : List Symbol) → ((s : Symbol) → Listed s ps → arity s ≤ most) → length (formulas ps cs) ≤ length ps * (most + length cs) ^ most
  formulas-few [] l = omega arith
  formulas-few (s ∷ ps) l =
      let here = of-predicate-few s (l s (inl refl)) in
      let more = formulas-few ps (λ x i. l x (inr i)) in
      omega (arith, length-append (of_predicate cs s) (formulas ps cs), here, more, suc-mul (length ps) ((most + length cs) ^ most))
