-- Names and variables by first appearance: how far the numbers go, and that the variables of a clause are numbered as document 01 wants them.
use Rattle.std.specs.Prelude.{ℕ, suc, ◌+◌, ◌≤◌, ◌<◌, ◌≡◌, refl, true, false, List, [], ◌∷◌, ◌++◌, eqb, length}
use Rattle.std.proofs.Common.{sym as inv, ap, ◌∙◌, ap₂, arith, eqb-true, eq-eqb, length-append}
use Rattle.terms.specs.Node.{Expr}
use Rattle.terms.specs.Cases.{cases}
use Rattle.words.specs.Flat.{flat}
use Rattle.format.specs.Reading.{next_unused}
use Rattle.format.specs.Format.{Below}
use Rattle.format.proofs.Numbering.{Ordered, unused-same, unused-other}
use Rattle.grammar.specs.Syntax.{Formula}
use Rattle.grammar.specs.Names.{Sort, Spot, variable_spot, symbol_spot, formula_spots, formulas_spots, same_name, place, within, grow, is_sort, names_after}
use Rattle.grammar.specs.Names.{lone, variable_number, with_variable, variables_after, numbered, numbered_all}

-- Names are compared byte by byte

pub same_refl : (w : List ℕ) → same_name w w ≡ true
same_refl [] = refl
same_refl (b ∷ w) = rw (eq-eqb b b refl) (same_refl w)

pub same_true : (v w : List ℕ) → same_name v w ≡ true → v ≡ w
same_true [] [] e = refl
same_true [] (b ∷ w) e = let z : ◌≡◌ {A = ℕ} 0 1 = cc in absurd (omega arith)
same_true (a ∷ v) [] e = let z : ◌≡◌ {A = ℕ} 0 1 = cc in absurd (omega arith)
same_true (a ∷ v) (b ∷ w) e =
    cases (eqb a b) (λ h. ap₂ ◌∷◌ (eqb-true a b h) (same_true v w (rw h at e)))
    (λ h. let q : false ≡ true = rw h at e in let z : ◌≡◌ {A = ℕ} 0 1 = cc in absurd (omega arith))

-- Places

pub place-low : (w : List ℕ) (l : List (List ℕ)) → place w l ≤ length l
place-low w [] = omega arith
place-low w (v ∷ l) = cases (same_name w v) (λ e. rw e (omega arith)) (λ e. rw e (omega (arith, place-low w l)))

pub place-within : (w : List ℕ) (l : List (List ℕ)) → within w l ≡ true → place w l < length l
place-within w [] h = let z : ◌≡◌ {A = ℕ} 0 1 = cc in omega arith
place-within w (v ∷ l) h = cases (same_name w v) (λ e. rw e (omega arith)) (λ e. rw e (omega (arith, place-within w l (rw e at h))))

pub place-outside : (w : List ℕ) (l : List (List ℕ)) → within w l ≡ false → place w l ≡ length l
place-outside w [] h = refl
place-outside w (v ∷ l) h =
    cases (same_name w v) (λ e. let z : ◌≡◌ {A = ℕ} 0 1 = cc (rw e at h) in absurd (omega arith)) (λ e. rw e (ap suc (place-outside w l (rw e at h))))

length_last : (l : List (List ℕ)) (w : List ℕ) → length (l ++ (w ∷ [])) ≡ suc (length l)
length_last l w = omega (arith, length-append l (w ∷ []))

-- Variables: one that is seen, and what is seen after it

-- its number, beside the length of what is seen before and after
pub data Numbers (seen : List (List ℕ)) (w : List ℕ) : Type 0 where
  fresh : variable_number seen w ≡ length seen → length (with_variable seen w) ≡ suc (length seen) → Numbers seen w
  known : variable_number seen w < length seen → length (with_variable seen w) ≡ length seen → Numbers seen w

pub numbers : (seen : List (List ℕ)) (w : List ℕ) → Numbers seen w
numbers seen w =
    cases (lone w) (λ e. fresh (rw e) (rw e (length_last seen w)))
    (λ e.
    cases (within w seen)
    (λ h. known (rw e (place-within w seen h)) (rw (e, h)))
    (λ h. fresh (rw e (place-outside w seen h)) (rw (e, h) (length_last seen w))))

pub variable-low : (seen : List (List ℕ)) (w : List ℕ) → variable_number seen w < length (with_variable seen w)
variable-low seen w = low (numbers seen w)
  where
    low : Numbers seen w → variable_number seen w < length (with_variable seen w)
    low (fresh p q) = omega arith
    low (known p q) = omega arith

pub with_more : (seen : List (List ℕ)) (w : List ℕ) → length seen ≤ length (with_variable seen w)
with_more seen w = more (numbers seen w)
  where
    more : Numbers seen w → length seen ≤ length (with_variable seen w)
    more (fresh p q) = omega arith
    more (known p q) = omega arith

pub with_one_more : (seen : List (List ℕ)) (w : List ℕ) → length (with_variable seen w) ≤ suc (length seen)
with_one_more seen w = one (numbers seen w)
  where
    one : Numbers seen w → length (with_variable seen w) ≤ suc (length seen)
    one (fresh p q) = omega arith
    one (known p q) = omega arith

next_with : (seen : List (List ℕ)) (w : List ℕ) → next_unused (length seen) (variable_number seen w) ≡ length (with_variable seen w)
next_with seen w = next (numbers seen w)
  where
    next : Numbers seen w → next_unused (length seen) (variable_number seen w) ≡ length (with_variable seen w)
    next (fresh p q) = unused-same (length seen) (variable_number seen w) p ∙ inv q
    next (known p q) = unused-other (length seen) (variable_number seen w) (λ (e : variable_number seen w ≡ length seen). omega arith) ∙ inv q

pub variables-more : (seen : List (List ℕ)) (e : List Spot) → length seen ≤ length (variables_after seen e)
variables-more seen [] = omega arith
variables-more seen (variable_spot w ∷ e) = omega (arith, with_more seen w, variables-more (with_variable seen w) e)
variables-more seen (symbol_spot k w n ∷ e) = variables-more seen e

pub variables-few : (seen : List (List ℕ)) (e : List Spot) → length (variables_after seen e) ≤ length seen + length e
variables-few seen [] = omega arith
variables-few seen (variable_spot w ∷ e) = omega (arith, with_one_more seen w, variables-few (with_variable seen w) e)
variables-few seen (symbol_spot k w n ∷ e) = omega (arith, variables-few seen e)

pub variables-append : (seen : List (List ℕ)) (a b : List Spot) → variables_after seen (a ++ b) ≡ variables_after (variables_after seen a) b
variables-append seen [] b = refl
variables-append seen (variable_spot w ∷ a) b = variables-append (with_variable seen w) a b
variables-append seen (symbol_spot k w n ∷ a) b = variables-append seen a b

-- Names: not more than there are symbols

grow-one : (seen : List (List ℕ)) (w : List ℕ) → length (grow seen w) ≤ suc (length seen)
grow-one seen w = cases (within w seen) (λ e. rw e (omega arith)) (λ e. rw e (omega (arith, length_last seen w)))

pub names-few : (k : Sort) (seen : List (List ℕ)) (e : List Spot) → length (names_after k seen e) ≤ length seen + length e
names-few k seen [] = omega arith
names-few k seen (variable_spot w ∷ e) = omega (arith, names-few k seen e)
names-few k seen (symbol_spot j w n ∷ e) =
    cases (is_sort k j) (λ p. rw p (omega (arith, grow-one seen w, names-few k (grow seen w) e))) (λ p. rw p (omega (arith, names-few k seen e)))

-- Spots with numbers

module _ (table : Sort → List (List ℕ)) where
  pub numbered-length : (seen : List (List ℕ)) (e : List Spot) → length (numbered table seen e) ≡ length e
  numbered-length seen [] = refl
  numbered-length seen (variable_spot w ∷ e) = ap suc (numbered-length (with_variable seen w) e)
  numbered-length seen (symbol_spot k w n ∷ e) = ap suc (numbered-length seen e)

  numbered-append : (seen : List (List ℕ)) (a b : List Spot) → numbered table seen (a ++ b) ≡ numbered table seen a ++ numbered table (variables_after seen a) b
  numbered-append seen [] b = refl
  numbered-append seen (variable_spot w ∷ a) b = rw (numbered-append (with_variable seen w) a b)
  numbered-append seen (symbol_spot k w n ∷ a) b = rw (numbered-append seen a b)

  pub flat-numbered : (seen : List (List ℕ)) (fs : List Formula) → flat (numbered_all table seen fs) ≡ numbered table seen (formulas_spots fs)
  flat-numbered seen [] = refl
  flat-numbered seen (f ∷ fs) =
      ap (λ (e : Expr). numbered table seen (formula_spots f) ++ e) (flat-numbered (variables_after seen (formula_spots f)) fs)
      ∙ inv (numbered-append seen (formula_spots f) (formulas_spots fs))

  -- each variable's number is below the count of variables
  pub numbered_below : (n : ℕ) (seen : List (List ℕ)) (e : List Spot) → length (variables_after seen e) ≤ n → Below n (numbered table seen e)
  numbered_below n seen [] h = tt
  numbered_below n seen (variable_spot w ∷ e) h =
      (omega (arith, variable-low seen w, variables-more (with_variable seen w) e), numbered_below n (with_variable seen w) e h)
  numbered_below n seen (symbol_spot k w m ∷ e) h = numbered_below n seen e h

  -- and at most the next unused one
  pub numbered-ordered : (seen : List (List ℕ)) (e : List Spot) → Ordered (length seen) (numbered table seen e)
  numbered-ordered seen [] = tt
  numbered-ordered seen (variable_spot w ∷ e) = (omega (arith, variable-low seen w, with_one_more seen w), rw (next_with seen w) (numbered-ordered (with_variable seen w) e))
  numbered-ordered seen (symbol_spot k w n ∷ e) = numbered-ordered seen e
