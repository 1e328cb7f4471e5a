-- A list checked entry by entry.
use Prim.Native.Nat.{ℕ, zero, suc, ◌+◌, ◌-◌, ◌≤◌, ◌<◌}
use mathlib.Core.Path.{◌≡◌, refl, sym as inv, ap, ap₂, ◌∙◌, subst}
use mathlib.Core.Bool.{Bool, true, false, not}
use mathlib.Core.List.{List}
use native.Mathlib.Omega.{arith}
use borrow.Author.Tests.{not-true, not-false, lt-ltb, le-ltb}
use lib.ListN.{length, get_or}
use Rattle.namelist.specs.Bytes.{is_name, name_at, rank_at, past, entry_good, good_from}
use Rattle.namelist.specs.Tests.{good-means, good_is, good-not}
use Rattle.terms.specs.Cases.{cases}

module _ (s : List ℕ) (at floor : ℕ) where
  pub fails-whole : (left : ℕ) → at < length s → left ≡ length s - at → left < 4 → false ≡ entry_good s at floor
  fails-whole left h e l = good-not s at floor (λ g. omega (arith, g.whole))

  pub fails-low : (k : ℕ) → k ≡ get_or s at 0 → k < 2 → false ≡ entry_good s at floor
  fails-low k e l = good-not s at floor (λ g. omega (arith, g.low))

  pub fails-high : (k : ℕ) → k ≡ get_or s at 0 → 4 < k → false ≡ entry_good s at floor
  fails-high k e l = good-not s at floor (λ g. omega (arith, g.high))

  pub fails-rank : (r : ℕ) → r ≡ rank_at s at → r < floor → false ≡ entry_good s at floor
  fails-rank r e l = good-not s at floor (λ g. omega (arith, g.above))

  pub fails-short : (n : ℕ) → n ≡ get_or s (at + 3) 0 → 32 < n → false ≡ entry_good s at floor
  fails-short n e l = good-not s at floor (λ g. omega (arith, g.short))

  pub fails-room : (left n : ℕ) → at < length s → left ≡ length s - at → n ≡ get_or s (at + 3) 0 → left < 4 + n → false ≡ entry_good s at floor
  fails-room left n h e q l = good-not s at floor (λ g. omega (arith, g.room))

  pub answers : (left k r n : ℕ) (w : List ℕ) (t : Bool) → at < length s → left ≡ length s - at → 4 ≤ left → k ≡ get_or s at 0 → 2 ≤ k → k ≤ 4 → r ≡ rank_at s at → floor ≤ r →
      n ≡ get_or s (at + 3) 0 → n ≤ 32 → 4 + n ≤ left → w ≡ name_at s at → t ≡ is_name w → t ≡ entry_good s at floor
  answers left k r n w t h e l f low high q a m p room b z =
      let v : t ≡ is_name (name_at s at) = z ∙ ap is_name b in
      cases t
      (λ y.
      y
      ∙ inv
      (good_is s at floor
      (record { whole = omega arith; low = omega arith; high = omega arith; above = omega arith; short = omega arith; room = omega arith; spelt = inv v ∙ y })))
      (λ y. y ∙ good-not s at floor (λ g. let z : ◌≡◌ {A = ℕ} 0 1 = cc (inv y ∙ v ∙ g.spelt) in omega arith))

pub ruleset entry-rules = (fails-whole, fails-low, fails-high, fails-rank, fails-short, fails-room, answers)

-- the entries before a place are good
pub record Checking (s : List ℕ) (at floor : ℕ) : Type 0 where
  pub fuel : ℕ
  pub enough : length s - at < fuel
  pub inside : at ≤ length s
  pub rest : good_from fuel s at floor ≡ good_from (suc (length s)) s 0 0

module _ (s : List ℕ) where
  pub checking-start : Checking s 0 0
  checking-start = record { fuel = suc (length s); enough = omega arith; inside = omega arith; rest = refl }

  goes : (k at floor : ℕ) → length s - at < k → at < length s → entry_good s at floor ≡ true → at < past s at →
      (j : ℕ) × (length s - past s at < j) × (good_from j s (past s at) (suc (rank_at s at)) ≡ good_from k s at floor)
  unfolding good_from
  goes zero at floor e l t p = absurd (omega arith)
  goes (suc k) at floor e l t p = (k, omega arith, rw (lt-ltb at (length s) l, t))

  stops : (k at floor : ℕ) → length s - at < k → at < length s → entry_good s at floor ≡ false → good_from k s at floor ≡ false
  unfolding good_from
  stops zero at floor e l t = absurd (omega arith)
  stops (suc k) at floor e l t = rw (lt-ltb at (length s) l, t)

  over : (k at floor : ℕ) → length s - at < k → length s ≤ at → good_from k s at floor ≡ true
  unfolding good_from
  over zero at floor e l = absurd (omega arith)
  over (suc k) at floor e l = rw (le-ltb at (length s) l)

  pub checking-fails : (at floor : ℕ) (t : Bool) → Checking s at floor → at < length s → t ≡ entry_good s at floor → not t ≡ true → false ≡ good_from (suc (length s)) s 0 0
  checking-fails at floor t g l e f = inv (stops g.fuel at floor g.enough l (inv e ∙ not-true t f)) ∙ g.rest

  pub checked-whole : (at floor : ℕ) (t : Bool) → t ≡ entry_good s at floor → not t ≡ false → at + 4 ≤ length s
  checked-whole at floor t e f = (good-means s at floor (inv e ∙ not-false t f)).whole

  pub checked-past : (at floor : ℕ) (t : Bool) → t ≡ entry_good s at floor → not t ≡ false → past s at ≤ length s
  checked-past at floor t e f = (good-means s at floor (inv e ∙ not-false t f)).room

  pub checking-step : (at floor r next : ℕ) (t : Bool) → Checking s at floor → at < length s → t ≡ entry_good s at floor → not t ≡ false → r ≡ rank_at s at → next ≡ past s at → Checking s next (r + 1)
  checking-step at floor r next t g l e f q p =
      let y = goes g.fuel at floor g.enough l (inv e ∙ not-false t f) (omega arith) in
      let z : suc (rank_at s at) ≡ r + 1 = omega arith in
      record {
        fuel = y.0;
        enough = subst (λ (i : ℕ). length s - i < y.0) (inv p) y.1;
        inside = subst (λ (i : ℕ). i ≤ length s) (inv p) (checked-past at floor t e f);
        rest = ap₂ (λ (i j : ℕ). good_from y.0 s i j) p (inv z) ∙ y.2 ∙ g.rest;
      }

  pub checking-end : (at floor : ℕ) → Checking s at floor → length s ≤ at → true ≡ good_from (suc (length s)) s 0 0
  checking-end at floor g l = inv (over g.fuel at floor g.enough l) ∙ g.rest

pub ruleset checking-rules = (checking-start, checking-fails, checked-whole, checked-past, checking-step, checking-end)
