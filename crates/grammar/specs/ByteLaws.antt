-- No byte is of two classes.
use Rattle.std.specs.Prelude.{ℕ, ◌≤◌, ◌<◌, ◌≡◌, refl, Bool, true, false, ◌&&◌, ◌||◌, eqb, leb}
use Rattle.std.proofs.Common.{sym as inv, true≢false, arith, leb-true, eqb-true, ne_eqb}
use Rattle.std.proofs.lemmas.Bool.{lt-leb}
use Rattle.grammar.specs.Byte.{small, capital, starts_variable, is_blank, is_bracket}

either : {X : Type 0} (a b : Bool) → (a || b) ≡ true → (a ≡ true → X) → (b ≡ true → X) → X
either true b e f g = f refl
either false b e f g = g e

both : (a b : Bool) → (a && b) ≡ true → (a ≡ true) × (b ≡ true)
both true b e = (refl, e)
both false b e = absurd (true≢false (inv e))

blank-low : (b : ℕ) → is_blank b ≡ true → b ≤ 32
unfolding is_blank
blank-low b e =
    either (eqb b 32 || eqb b 9 || eqb b 10) (eqb b 13) e
    (λ f. either (eqb b 32 || eqb b 9) (eqb b 10) f (λ g. either (eqb b 32) (eqb b 9) g (is 32 (omega arith)) (is 9 (omega arith))) (is 10 (omega arith)))
    (is 13 (omega arith))
  where
    is : (k : ℕ) → k ≤ 32 → eqb b k ≡ true → b ≤ 32
    is k q p = omega (arith, eqb-true b k p)

low-not-small : (b : ℕ) → b < 97 → small b ≡ false
unfolding small
low-not-small b h = rw (lt-leb 97 b h)

pub variable-not-small : (b : ℕ) → starts_variable b ≡ true → small b ≡ false
unfolding starts_variable capital
variable-not-small b e =
    either (capital b) (eqb b 95) e
    (λ p. low-not-small b (omega (arith, leb-true b 90 (both (leb 65 b) (leb b 90) p).1)))
    (λ p. low-not-small b (omega (arith, eqb-true b 95 p)))

pub blank-not-small : (b : ℕ) → is_blank b ≡ true → small b ≡ false
blank-not-small b e = low-not-small b (omega (arith, blank-low b e))

pub blank-not-variable : (b : ℕ) → is_blank b ≡ true → starts_variable b ≡ false
unfolding starts_variable capital
blank-not-variable b e =
    let h = blank-low b e in
    rw (lt-leb 65 b (omega arith), ne_eqb b 95 (λ (q : b ≡ 95). omega arith))

not-bracket : (b : ℕ) → (b ≡ 40 → ⊥) → is_bracket b ≡ false
unfolding is_bracket
not-bracket b h = ne_eqb b 40 h

pub small-not-bracket : (b : ℕ) → small b ≡ true → is_bracket b ≡ false
unfolding small
small-not-bracket b e = not-bracket b (λ (q : b ≡ 40). omega (arith, leb-true 97 b (both (leb 97 b) (leb b 122) e).0))

pub variable-not-bracket : (b : ℕ) → starts_variable b ≡ true → is_bracket b ≡ false
unfolding starts_variable capital
variable-not-bracket b e =
    not-bracket b
    (λ (q : b ≡ 40).
    either (capital b) (eqb b 95) e
    (λ p. omega (arith, leb-true 65 b (both (leb 65 b) (leb b 90) p).0))
    (λ p. omega (arith, eqb-true b 95 p)))

pub blank-not-bracket : (b : ℕ) → is_blank b ≡ true → is_bracket b ≡ false
blank-not-bracket b e = not-bracket b (λ (q : b ≡ 40). omega (arith, blank-low b e))
