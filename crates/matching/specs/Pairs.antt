-- Pairs of rows that are still to be made equal.
use Rattle.std.specs.Prelude.{ℕ, zero, suc, ◌+◌, ◌*◌, ◌-◌, ◌<◌, ◌≤◌, ◌≡◌, ◌↔◌, List, length, get_or}
use Rattle.terms.specs.Subst.{Subst, Proper}
use Rattle.heap.specs.Heap.{Whole}
use Rattle.matching.specs.Meeting.{Equal}
use Rattle.matching.specs.declared.pairs.Pairs.{Pairs}

-- the level number i: where its rows are on both sides, and how many
abbrev pub level_left : List ℕ → ℕ → ℕ
level_left levels i = get_or levels (3 * i) 0

abbrev pub level_right : List ℕ → ℕ → ℕ
level_right levels i = get_or levels (3 * i + 1) 0

abbrev pub level_due : List ℕ → ℕ → ℕ
level_due levels i = get_or levels (3 * i + 2) 0

-- τ makes the pairs of n levels equal
abbrev pub EqualLevels : List ℕ → List ℕ → Subst → ℕ → Type 0
EqualLevels heap levels τ zero = Unit {0}
EqualLevels heap levels τ (suc n) = Equal heap τ (level_due levels n) (level_left levels n) (level_right levels n) × EqualLevels heap levels τ n

-- and all that are due
abbrev pub EqualAll : List ℕ → List ℕ → Subst → Pairs → Type 0
EqualAll heap levels τ x = Equal heap τ x.due x.p x.q × EqualLevels heap levels τ x.depth

pub record Due (heap levels : List ℕ) (x : Pairs) : Type 0 where
  pub left : Whole heap x.due x.p
  pub right : Whole heap x.due x.q
  pub back : (i : ℕ) → i < x.depth → Whole heap (level_due levels i) (level_left levels i) × Whole heap (level_due levels i) (level_right levels i) × (0 < level_due levels i)
  pub room : 3 * x.depth ≤ length levels

-- r is x without some pairs that are equal whatever is bound
pub record Alike (heap : List ℕ) (x r : Pairs) : Type 0 where
  pub left : Whole heap r.due r.p
  pub right : Whole heap r.due r.q
  pub depth : r.depth ≡ x.depth
  pub just : (τ : Subst) → Equal heap τ x.due x.p x.q ↔ Equal heap τ r.due r.p r.q

-- r is x without its first pair
pub record Behind (heap : List ℕ) (x r : Pairs) : Type 0 where
  pub left : Whole heap r.due r.p
  pub right : Whole heap r.due r.q
  pub left_on : x.p ≤ r.p
  pub right_on : x.q ≤ r.q
  pub left_inside : r.p ≤ length heap
  pub right_inside : r.q ≤ length heap
  pub due : r.due ≡ x.due - 1
  pub depth : r.depth ≡ x.depth
  pub just : (τ : Subst) → Proper τ → Equal heap τ x.due x.p x.q ↔ (Equal heap τ 1 x.p x.q × Equal heap τ r.due r.p r.q)

-- where no pair of x is due r is the level before it
pub record Settled (levels : List ℕ) (x r : Pairs) : Type 0 where
  pub due : (heap : List ℕ) → Due heap levels x → Due heap levels r
  pub ended : (heap : List ℕ) → Due heap levels x → r.due ≡ 0 → r.depth ≡ 0
  pub deep : r.depth ≤ x.depth
  pub just : (heap : List ℕ) (τ : Subst) → EqualAll heap levels τ r ↔ EqualAll heap levels τ x

-- the k rows at a and b, and then x
pub record Entered (levels : List ℕ) (x : Pairs) (a b k : ℕ) (levels' : List ℕ) (r : Pairs) : Type 0 where
  pub due : (heap : List ℕ) → Due heap levels x → Whole heap k a → Whole heap k b → Due heap levels' r
  pub count : r.due ≡ k
  pub deep : r.depth ≤ suc x.depth
  pub long : length levels' ≡ length levels
  pub just : (heap : List ℕ) (τ : Subst) → EqualAll heap levels' τ r ↔ (Equal heap τ k a b × EqualAll heap levels τ x)
