-- The rows as two tables, one behind the other: what is read, and what a store does to both.
use Prim.Native.Nat.{ℕ, zero, suc, ◌+◌, ◌-◌, ◌≤◌, ◌<◌}
use native.Mathlib.Omega.{arith}
use mathlib.Core.Path.{◌≡◌, refl, sym as inv, ap, ◌∙◌}
use mathlib.Core.List.{List, [], ◌∷◌}
use lib.ListN.{length, get_or, set, take, drop, length-drop}
use lib.Seq.{get_or-take, get_or-drop, length-take-le}
use Rattle.numbering.specs.Naming.{NAMES, table, back}

take-set : (n i : ℕ) (l : List ℕ) (v : ℕ) → i < n → take n (set l i v) ≡ set (take n l) i v
take-set zero i l v h = absurd (omega arith)
take-set (suc n) i [] v h = refl
take-set (suc n) zero (x ∷ l) v h = refl
take-set (suc n) (suc i) (x ∷ l) v h = ap (λ t. x ∷ t) (take-set n i l v (omega arith))

take-kept : (n i : ℕ) (l : List ℕ) (v : ℕ) → n ≤ i → take n (set l i v) ≡ take n l
take-kept zero i l v h = refl
take-kept (suc n) i [] v h = refl
take-kept (suc n) zero (x ∷ l) v h = absurd (omega arith)
take-kept (suc n) (suc i) (x ∷ l) v h = ap (λ t. x ∷ t) (take-kept n i l v (omega arith))

drop-set : (n i j : ℕ) (l : List ℕ) (v : ℕ) → n + i ≡ j → drop n (set l j v) ≡ set (drop n l) i v
drop-set zero i j l v e = let o : j ≡ i = omega arith in ap (λ k. set l k v) o
drop-set (suc n) i j [] v e = refl
drop-set (suc n) i zero (x ∷ l) v e = absurd (omega arith)
drop-set (suc n) i (suc j) (x ∷ l) v e = drop-set n i j l v (omega arith)

drop-kept : (n i : ℕ) (l : List ℕ) (v : ℕ) → i < n → drop n (set l i v) ≡ drop n l
drop-kept zero i l v h = absurd (omega arith)
drop-kept (suc n) i [] v h = refl
drop-kept (suc n) zero (x ∷ l) v h = refl
drop-kept (suc n) (suc i) (x ∷ l) v h = drop-kept n i l v (omega arith)

module _ (rows : List ℕ) where
  pub table_at : (v t : ℕ) → v < NAMES → t ≡ get_or rows v 0 → t ≡ get_or (table rows) v 0
  unfolding table
  table_at v t h e = e ∙ inv (get_or-take NAMES rows v 0 h)

  pub back_at : (t w : ℕ) → w ≡ get_or rows (8256 + t) 0 → w ≡ get_or (back rows) t 0
  unfolding back
  back_at t w e = e ∙ inv (get_or-drop NAMES rows t 0)

  pub table-length : NAMES ≤ length rows → length (table rows) ≡ NAMES
  unfolding table
  table-length h = length-take-le NAMES rows h

  pub back-length : length (back rows) ≡ length rows - NAMES
  unfolding back
  back-length = length-drop NAMES rows

  -- the variable v has the number n, and that number the variable
  module _ (v n : ℕ) (h : v < NAMES) where
    pub table-stored : table (set (set rows v n) (8256 + n) v) ≡ set (table rows) v n
    unfolding table
    table-stored = take-kept NAMES (8256 + n) (set rows v n) v (omega arith) ∙ take-set NAMES v rows n h

    pub back-stored : back (set (set rows v n) (8256 + n) v) ≡ set (back rows) n v
    unfolding back
    back-stored = drop-set NAMES n (8256 + n) (set rows v n) v refl ∙ ap (λ l. set l n v) (drop-kept NAMES v rows n h)
