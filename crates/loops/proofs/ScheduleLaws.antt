-- What the steps are at which the detector saves in any case: zero and the powers of two, and where the next one is.
use Rattle.std.specs.Prelude.{ℕ, zero, suc, ◌+◌, ◌-◌, ◌*◌, ◌/◌, ◌^◌, ◌≤◌, ◌<◌, true, false, ◌⊎◌, ◌≡◌, refl}
use Rattle.std.proofs.Math.Nat.{two-pow-succ}
use Rattle.std.proofs.Common.{one-mul, add-zero, arith, inl, inr, sym, ap, ◌∙◌, pow_pos, le-leb}
use Rattle.std.proofs.Math.Decide.{dec_lt}
use Rattle.std.proofs.lemmas.Bool.{false≢true, lt-leb}
use Rattle.std.specs.Int.Count.{ones, ones_step}
use Rattle.std.proofs.lemmas.Nat.{ones_cat}
use Rattle.loops.specs.Schedule.{scheduled}

-- a number that is not zero has a set bit
ones_pos : (d n : ℕ) → n ≤ d → 0 < n → 0 < ones n
ones_pos zero n l h = omega arith
ones_pos (suc d) n l h = elim (dec_lt 0 (n / 2)) [ yes p ↦ omega (arith, ones_step n, ones_pos d (n / 2) (omega arith) p) | no p ↦ omega (arith, ones_step n) ]

-- a power of two, with smaller digits below it
ones-under : (n r : ℕ) → r < 2 ^ n → ones (2 ^ n + r) ≡ 1 + ones r
unfolding ones
ones-under n r l = rw one-mul at (ones_cat n 1 r l)

-- zero is scheduled
pub scheduled-zero : scheduled 0 ≡ true
unfolding scheduled ones
scheduled-zero = refl

-- so is each power of two
pub scheduled-pow : (n : ℕ) → scheduled (2 ^ n) ≡ true
unfolding scheduled ones
scheduled-pow n = le-leb (ones (2 ^ n)) 1 (omega (arith, simp add-zero at (ones-under n 0 (pow_pos n))))

-- no scheduled number lies strictly between two neighbouring powers
pub between : (n k : ℕ) → 2 ^ n < k → k < 2 ^ suc n → scheduled k ≡ false
unfolding scheduled
between n k l h =
    let r = k - 2 ^ n in
    let split : k ≡ 2 ^ n + r = omega arith in
    lt-leb (ones k) 1 (omega (arith, ap ones split, ones-under n r (omega (arith, two-pow-succ n)), ones_pos r r (omega arith) (omega arith)))

-- a number's highest bit
floor : (t : ℕ) → 0 < t → (n : ℕ) × (2 ^ n ≤ t) × (t < 2 ^ suc n)
floor zero h = absurd (omega arith)
floor (suc zero) h = (0, omega arith, omega arith)
floor (suc (suc t)) h =
    let f = floor (suc t) (omega arith) in
    elim (dec_lt (suc (suc t)) (2 ^ suc f.0)) [ yes p ↦ (f.0, omega arith, p) | no p ↦ (suc f.0, omega arith, omega (arith, two-pow-succ (suc f.0))) ]

-- and nothing else is
pub scheduled-only : (t : ℕ) → scheduled t ≡ true → (t ≡ 0) ⊎ ((n : ℕ) × (t ≡ 2 ^ n))
scheduled-only zero e = inl refl
scheduled-only (suc t) e =
    let f = floor (suc t) (omega arith) in
    elim (dec_lt (2 ^ f.0) (suc t)) [ yes p ↦ absurd (false≢true (sym (between f.0 (suc t) p f.2) ∙ e)) | no p ↦ inr (f.0, omega arith) ]

-- a scheduled number near m, with nothing scheduled for as many steps after it
pub record Window (m : ℕ) : Type 0 where
  pub start : ℕ
  pub on : scheduled start ≡ true
  pub late : m ≤ start
  pub soon : start < 2 * m
  pub quiet : (k : ℕ) → start < k → k < 2 * start → scheduled k ≡ false

-- the first power of two from m on
pub window : (m : ℕ) → 0 < m → Window m
window m h =
    let f = floor m h in
    elim (dec_lt (2 ^ f.0) m) [
      | yes p ↦ at (suc f.0) (omega arith) (omega (arith, two-pow-succ f.0))
      | no p ↦ at f.0 (omega arith) (omega arith)
    ]
  where
    at : (n : ℕ) → m ≤ 2 ^ n → 2 ^ n < 2 * m → Window m
    at n a b = record { start = 2 ^ n; on = scheduled-pow n; late = a; soon = b; quiet = λ k c d. between n k c (omega (arith, two-pow-succ n)) }
