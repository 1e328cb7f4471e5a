-- Cells bound to nothing, by a fill of the part that they are.
use Prim.Native.Nat.{ℕ, ◌+◌, ◌-◌, ◌<◌, ◌≤◌}
use native.Mathlib.Omega.{arith}
use mathlib.Core.Path.{◌≡◌, sym as inv, ap, ◌∙◌}
use mathlib.Core.Logic.{◌⊎◌, inl, inr}
use mathlib.Core.List.{List, ◌++◌}
use lib.ListN.{length, replicate, get_or, get_or-append, take, drop, length-replicate}
use lib.Seq.{get_or-take, drop_at, length-take-le}
use Rattle.std.proofs.lemmas.List.{get_or-drop, get_or-replicate}
use borrow.Rule.Slice.PartMut.{mid_of, post_of, put_mid, same_len_mid, take_put, drop_put, mid_len}
use Rattle.heap.specs.Heap.{bound}
use Rattle.heapgoals.specs.Rows.{Cleared}

module _ (cells : List ℕ) (from to : ℕ) (f : from ≤ to) (t : to ≤ length cells) where
  abbrev part : List ℕ
  part = replicate (to - from) 0

  abbrev after : List ℕ
  after = put_mid from (to - from) cells part

  long : length part ≡ to - from
  long = length-replicate (to - from) 0

  behind : drop from after ≡ part ++ post_of from (to - from) cells
  behind = drop_at (take from cells) (part ++ post_of from (to - from) cells) from (length-take-le from cells (omega (arith, f, t)))

  at-zero : (v n : ℕ) → v ≡ from + n → n < to - from → bound after v ≡ 0
  at-zero v n e l =
      ap (bound after) e ∙ inv (get_or-drop from after n 0) ∙ ap (λ z. get_or z n 0) behind ∙ get_or-append part (post_of from (to - from) cells) 0 n (omega (arith, l, long))
      ∙ get_or-replicate (to - from) n 0 0 l

  far : (v n : ℕ) → v ≡ to + n → bound after v ≡ bound cells v
  far v n e = ap (bound after) e ∙ inv (get_or-drop to after n 0) ∙ ap (λ z. get_or z n 0) (drop_put from to cells part f t long) ∙ get_or-drop to cells n 0 ∙ inv (ap (bound cells) e)

  near : (v : ℕ) → v < from → bound after v ≡ bound cells v
  near v l = inv (get_or-take from after v 0 l) ∙ ap (λ z. get_or z v 0) (take_put from (to - from) cells part (omega (arith, f, t))) ∙ get_or-take from cells v 0 l

  other : (v : ℕ) → (v < from) ⊎ (to ≤ v) → bound after v ≡ bound cells v
  other v (inl l) = near v l
  other v (inr l) = far v (v - to) (omega (arith, l))

  cleared : Cleared cells from to after
  cleared = record { long = same_len_mid from (to - from) cells part (long ∙ inv (mid_len from to cells t)); inside = λ v a b. at-zero v (v - from) (omega (arith, a)) (omega (arith, a, b)); outside = other }

pub filled : (cells : List ℕ) (from to : ℕ) → from ≤ to → to ≤ length cells → {ys : List ℕ} → ys ≡ replicate (length (mid_of from (to - from) cells)) 0 → Cleared cells from to (put_mid from (to - from) cells ys)
filled cells from to f t e = rw (e, mid_len from to cells t) (cleared cells from to f t)
