-- The solution written out.
use Rattle.std.specs.Prelude.{Option, MatchOption, ℕ, zero, suc, ◌+◌, ◌-◌, ◌%◌, ◌≤◌, ◌<◌, ◌≡◌, List, [], ◌++◌, length, get_or, take}
use Rattle.terms.specs.Node.{Expr}
use Rattle.words.specs.Word.{nodes}
use Rattle.positions.specs.Words.{child}

-- what waits on a stack, from the top down
abbrev pub pending : (ℕ → Expr) → List ℕ → ℕ → Expr
pending g st zero = []
pending g st (suc t) = g (get_or st t 0) ++ pending g st t

-- the k arguments at x put on the stack, the first on top
pub record Pushed (e : List ℕ) (x base k : ℕ) (st z : List ℕ) : Type 0 where
  pub new : (i : ℕ) → i < k → get_or z (base + (k - 1 - i)) 0 ≡ child e x i
  pub old : (j : ℕ) → j < base → get_or z j 0 ≡ get_or st j 0

-- u is a word of l
abbrev pub Of : List ℕ → ℕ → Type 0
Of l u = (p : ℕ) × (p < length l) × (get_or l p 0 ≡ u)

-- from `out` filled to `at`, z filled to r: what was there, and then t, in words of S; 65535 where there is no room for t
pub record Written (S : ℕ → Type 0) (out : List ℕ) (at : ℕ) (t : Expr) (z : List ℕ) (r : ℕ) : Type 0 where
  pub full : r ≡ 65535 → length out < at + length t
  pub within : (r ≡ 65535 → ⊥) → r ≤ length out
  pub done : (r ≡ 65535 → ⊥) → nodes (take r z) ≡ nodes (take at out) ++ t
  pub kept : (r ≡ 65535 → ⊥) → (x : ℕ) → x < at → get_or z x 0 ≡ get_or out x 0
  pub from : (r ≡ 65535 → ⊥) → (x : ℕ) → at ≤ x → x < r → S (get_or z x 0)

-- the variable whose word is u is not where `first` has it; or q is that position
pub record Bound (w first : List ℕ) (u : ℕ) (r : Option ℕ) : Type 0 where
  pub known : MatchOption r (get_or w (get_or first (u % 65536) 0) 0 ≡ u → ⊥) (λ q. (q < length w) × (q ≡ get_or first (u % 65536) 0) × (get_or w q 0 ≡ u))
