-- `V0`, `V1` and so on: each is spelt rightly, and is another name.
use Rattle.std.specs.Prelude.{ℕ, zero, suc, ◌+◌, ◌-◌, ◌*◌, ◌/◌, ◌%◌, ◌^◌, ◌<◌, ◌≡◌, refl, Bool, true, false, ◌||◌, List, [], ◌∷◌, ◌++◌, eqb, ltb}
use Rattle.std.proofs.Common.{sym as inv, ap, ◌∙◌, arith, ltb-true, le-leb}
use Rattle.terms.specs.Cases.{cases}
use Rattle.grammar.specs.Byte.{small, capital, digit, goes_on, starts_variable, All, IsVariable}
use Rattle.printing.specs.Named.{digits, variable_name}

-- Digits

-- the number that digits stand for, behind others
abbrev value : ℕ → List ℕ → ℕ
value n [] = n
value n (d ∷ l) = value (10 * n + (d - 48)) l

value-append : (n : ℕ) (l m : List ℕ) → value n (l ++ m) ≡ value (value n l) m
value-append n [] m = refl
value-append n (d ∷ l) m = value-append (10 * n + (d - 48)) l m

digits_value : (k n : ℕ) → n < 10 ^ k → value 0 (digits k n) ≡ n
digits_value zero n h = omega arith
digits_value (suc k) n h =
    cases (ltb n 10)
    (λ e. rw e (omega arith))
    (λ e. rw e (value-append 0 (digits k (n / 10)) ((48 + n % 10) ∷ []) ∙ ap (λ (m : ℕ). 10 * m + (48 + n % 10 - 48)) (digits_value k (n / 10) (omega arith)) ∙ omega arith))

pub name-one : (v w : ℕ) → v < 100000 → w < 100000 → variable_name v ≡ variable_name w → v ≡ w
name-one v w p q e =
    inv (digits_value 5 v p) ∙ ap (value 0) (let d : digits 5 v ≡ digits 5 w = cc in d) ∙ digits_value 5 w q

digit-goes-on : (d : ℕ) → d < 10 → goes_on (48 + d) ≡ true
unfolding goes_on small capital digit
digit-goes-on d h = rw (le-leb 48 (48 + d) (omega arith), le-leb (48 + d) 57 (omega arith)) (any (small (48 + d)) (capital (48 + d)) (eqb (48 + d) 95))
  where
    any : (a b c : Bool) → (a || b || true || c) ≡ true
    any true b c = refl
    any false true c = refl
    any false false c = refl

all_append : (l m : List ℕ) → All goes_on l → All goes_on m → All goes_on (l ++ m)
all_append [] m p q = q
all_append (d ∷ l) m p q = (p.0, all_append l m p.1 q)

digits-go-on : (k n : ℕ) → All goes_on (digits k n)
digits-go-on zero n = tt
digits-go-on (suc k) n =
    cases (ltb n 10)
    (λ e. rw e (digit-goes-on n (ltb-true n 10 e), tt))
    (λ e. rw e (all_append (digits k (n / 10)) ((48 + n % 10) ∷ []) (digits-go-on k (n / 10)) (digit-goes-on (n % 10) (omega arith), tt)))

pub name-right : (v : ℕ) → IsVariable (variable_name v)
unfolding starts_variable capital
name-right v = (refl, digits-go-on 5 v)
