-- The rows of a body before those that are behind the first formula's.
use Prim.Native.Nat.{ℕ, zero, suc, ◌+◌, ◌*◌, ◌-◌, ◌<◌, ◌≤◌}
use native.Mathlib.Omega.{arith}
use native.Mathlib.Decide.{dec_lt}
use mathlib.Core.Path.{◌≡◌, refl, sym as inv, ap, ap₂, ◌∙◌, subst}
use mathlib.Core.List.{List, ◌++◌}
use lib.ListN.{length, get_or, set, length-set}
use lib.Seq.{get_or-set_same, get_or-set_other}
use Rattle.terms.specs.Row.{Row, row_end}
use Rattle.heap.specs.Heap.{rows, Whole}
use Rattle.heap.specs.Walking.{level_at, level_due, Levels, settled, settled_at}
use Rattle.heap.specs.HeapLaws.{rows_none, rows_inside, row_inside, first-whole, rest-whole}
use Rattle.heap.specs.WalkLaws.{settled-ready}
use Rattle.heap.specs.declared.walking.Walk.{Walk}
use Rattle.heapgoals.specs.Holding.{listed, waiting}
use Rattle.heapgoals.specs.HoldLaws.{rest_rows}
use Rattle.heapgoals.specs.declared.Standing.{Standing}
use Rattle.treads.specs.Stepping.{BehindFirst, Entered}

settled-listed : (heap levels : List ℕ) (at due depth : ℕ) → listed heap (settled_at levels at due depth).due (settled_at levels at due depth).at ++ waiting heap levels (settled_at levels at due depth).depth ≡ listed heap due at ++ waiting heap levels depth
settled-listed heap levels at (suc due) depth = refl
settled-listed heap levels at zero zero = refl
settled-listed heap levels at zero (suc n) = refl

settled-deep : (levels : List ℕ) (at due depth : ℕ) → (settled_at levels at due depth).depth ≤ depth
settled-deep levels at (suc due) depth = omega arith
settled-deep levels at zero zero = omega arith
settled-deep levels at zero (suc n) = omega arith

-- a level that is kept
module _ (heap levels : List ℕ) (n x y : ℕ) (room : 2 * n + 2 ≤ length levels) where
  abbrev more : List ℕ
  more = set (set levels (2 * n) x) (2 * n + 1) y

  more-at : level_at more n ≡ x
  more-at = get_or-set_other (set levels (2 * n) x) (2 * n + 1) (2 * n) y 0 (λ e. omega arith) ∙ get_or-set_same levels (2 * n) x 0 (omega (arith, room))

  more-due : level_due more n ≡ y
  more-due = get_or-set_same (set levels (2 * n) x) (2 * n + 1) y 0 (omega (arith, room, length-set levels (2 * n) x))

  more-long : length more ≡ length levels
  more-long = length-set (set levels (2 * n) x) (2 * n + 1) y ∙ length-set levels (2 * n) x

  below : (j : ℕ) → j < 2 * n → get_or more j 0 ≡ get_or levels j 0
  below j l = get_or-set_other (set levels (2 * n) x) (2 * n + 1) j y 0 (λ e. omega arith) ∙ get_or-set_other levels (2 * n) j x 0 (λ e. omega arith)

  more-levels : Levels heap levels n → (i : ℕ) → i < n → Whole heap (level_due more i) (level_at more i) × (0 < level_due more i)
  more-levels l i h = rw (below (2 * i) (omega arith)) (rw (below (2 * i + 1) (omega arith)) (l i h))

  more-waiting : (m : ℕ) → m ≤ n → waiting heap more m ≡ waiting heap levels m
  more-waiting zero l = refl
  more-waiting (suc m) l = ap₂ ◌++◌ (ap₂ (listed heap) (below (2 * m + 1) (omega arith)) (below (2 * m) (omega arith))) (more-waiting m (omega arith))

module _ (heap levels : List ℕ) (s : Standing) (p k rest due : ℕ) (at_rest : BehindFirst heap s rest) (is-due : due ≡ s.due - 1) (deep : s.depth < 256) (long : length levels ≡ 1028) (back : Levels heap levels s.depth) where
  abbrev rest_is : Type 0
  rest_is = listed heap due rest ++ waiting heap levels s.depth ≡ rest_rows heap levels s

  the_rest : rest_is
  the_rest = ap (λ n. listed heap n rest ++ waiting heap levels s.depth) is-due ∙ ap (λ l. l ++ waiting heap levels s.depth) at_rest.same

  rest-whole-there : Whole heap due rest
  rest-whole-there = subst (λ n. Whole heap n rest) (inv is-due) at_rest.whole

  pub enter_none : k ≡ 0 → {w : Walk} → w ≡ settled levels (record { at = rest; due = due; depth = s.depth }) → Entered heap levels s p k levels w
  enter_none none e = rw e (record {
    same = settled-listed heap levels rest due s.depth ∙ the_rest ∙ ap (λ n. listed heap n p ++ rest_rows heap levels s) (inv none);
    ready = settled-ready levels heap rest due s.depth rest-whole-there back (omega (arith, deep, long));
    deep = omega (arith, settled-deep levels rest due s.depth, deep);
    long = refl;
  })

  pub enter_alone : Whole heap k p → (k ≡ 0 → ⊥) → due ≡ 0 → Entered heap levels s p k levels (record { at = p; due = k; depth = s.depth })
  enter_alone whole some none = record {
    same = ap (λ l. listed heap k p ++ l) (ap (λ n. listed heap n rest ++ waiting heap levels s.depth) (inv none) ∙ the_rest);
    ready = record { front = whole; back = back; ended = λ e. absurd (some e); room = omega (arith, deep, long) };
    deep = omega (arith, deep);
    long = refl;
  }

  pub enter_more : Whole heap k p → (k ≡ 0 → ⊥) → (due ≡ 0 → ⊥) → {n : ℕ} → n ≡ suc s.depth → Entered heap levels s p k (set (set levels (2 * s.depth) rest) (2 * s.depth + 1) due) (record { at = p; due = k; depth = n })
  enter_more whole some more-due' e = rw e (record {
    same = ap (λ l. listed heap k p ++ l) (ap₂ ◌++◌ (ap₂ (listed heap) (more-due heap levels s.depth rest due room) (more-at heap levels s.depth rest due room)) (more-waiting heap levels s.depth rest due room s.depth (omega arith)) ∙ the_rest);
    ready = record { front = whole; back = levels-more; ended = λ z. absurd (some z); room = omega (arith, deep, long, more-long heap levels s.depth rest due room) };
    deep = omega (arith, deep);
    long = more-long heap levels s.depth rest due room;
  })
    where
      room : 2 * s.depth + 2 ≤ length levels
      room = omega (arith, deep, long)

      levels-more : Levels heap (set (set levels (2 * s.depth) rest) (2 * s.depth + 1) due) (suc s.depth)
      levels-more i h = elim (dec_lt i s.depth) [
        | yes l ↦ more-levels heap levels s.depth rest due room back i l
        | no n ↦ last i (omega (arith, h, n))
      ]
        where
          last : (i : ℕ) → i ≡ s.depth → Whole heap (level_due (set (set levels (2 * s.depth) rest) (2 * s.depth + 1) due) i) (level_at (set (set levels (2 * s.depth) rest) (2 * s.depth + 1) due) i) × (0 < level_due (set (set levels (2 * s.depth) rest) (2 * s.depth + 1) due) i)
          last i e = rw e (rw (more-due heap levels s.depth rest due room) (rw (more-at heap levels s.depth rest due room) (rest-whole-there, omega (arith, more-due'))))

-- the first row, and those behind it
pub first-there : (heap : List ℕ) (n p : ℕ) → 0 < n → Whole heap n p → Whole heap 1 p
first-there heap zero p l w = absurd (omega arith)
first-there heap (suc n) p l w = first-whole heap n p w

rest-there : (heap : List ℕ) (n p : ℕ) → 0 < n → Whole heap n p → {q : ℕ} → q ≡ p + length (rows heap 1 p) → Whole heap (n - 1) q
rest-there heap zero p l w e = absurd (omega arith)
rest-there heap (suc n) p l w {q} e = let z : n ≡ suc n - 1 = omega arith in subst (λ k. Whole heap k q) z (rest-whole heap n p w e)

pub behind-none : (heap : List ℕ) (s : Standing) → Whole heap s.due s.at → s.due ≡ 1 → BehindFirst heap s s.at
behind-none heap s w e = record {
  whole = subst (λ n. Whole heap n s.at) none (subst (Row 0) (inv (rows_none heap s.at)) row_end);
  inside = omega (arith, row_inside heap 0 s.at (subst (λ n. Whole heap n s.at) e w));
  same = ap (λ n. listed heap n s.at) (inv none) ∙ ap (λ n. listed heap n (s.at + length (rows heap 1 s.at))) none;
}
  where
    none : 0 ≡ s.due - 1
    none = omega (arith, e)

pub behind-some : (heap : List ℕ) (s : Standing) → 0 < s.due → Whole heap s.due s.at → {r : ℕ} → r ≡ s.at + length (rows heap 1 s.at) → BehindFirst heap s r
behind-some heap s l w e = record {
  whole = rest-there heap s.due s.at l w e;
  inside = omega (arith, e, rows_inside heap 1 s.at (omega (arith, row_inside heap 0 s.at (first-there heap s.due s.at l w))));
  same = ap (listed heap (s.due - 1)) e;
}
