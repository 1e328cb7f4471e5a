-- Pairs, one after another.
use Rattle.std.specs.Prelude.{ℕ, zero, suc, ◌+◌, ◌*◌, ◌-◌, ◌<◌, ◌≤◌, ◌≡◌, refl, ◌↔◌, List, ◌∷◌, ◌++◌, length, get_or, drop, set}
use Rattle.std.proofs.Common.{arith, sym as inv, ap, ap₂, ◌∙◌, subst, length-set, get_or-set_same, get_or-set_other}
use Rattle.std.proofs.Math.Decide.{ℕ_discrete}
use Rattle.std.proofs.Math.Path.{transport}
use Rattle.terms.specs.Subst.{Subst, Proper, apply}
use Rattle.terms.specs.SubstLaws.{apply-append, apply-row}
use Rattle.terms.specs.Row.{Row, row_end}
use Rattle.terms.specs.RowLaws.{row_unique}
use Rattle.words.specs.Word.{arity_of, Plain, Valids, node}
use Rattle.heap.specs.Heap.{rows, Whole}
use Rattle.heap.specs.HeapLaws.{rows_none, row_inside, rows_few, rows_inside, whole-sym, stands-symbol, first-whole, rest-whole, rows-first}
use Rattle.matching.specs.Meeting.{Equal}
use Rattle.matching.specs.Pairs.{level_left, level_right, level_due, EqualLevels, Alike, Behind, Settled, Entered}
use Rattle.matching.specs.declared.pairs.Pairs.{Pairs}

-- Pairs of the same symbol.

pub alike-none : (heap : List ℕ) (x : Pairs) → Whole heap x.due x.p → Whole heap x.due x.q → Alike heap x (record { p = x.p; q = x.q; due = x.due; depth = x.depth })
alike-none heap x l r = record { left = l; right = r; depth = refl; just = λ τ. (λ e. e, λ e. e) }

module _ {heap : List ℕ} {x : Pairs} {p q due depth : ℕ} (a : Alike heap x (record { p = p; q = q; due = due; depth = depth })) (some : 0 < due) where
  is-more : due ≡ suc (due - 1)
  is-more = omega (arith, some)

  -- the rows that are due, one more than the others
  more-whole : (r : ℕ) → Whole heap due r → Whole heap (suc (due - 1)) r
  more-whole r = subst (λ n. Whole heap n r) is-more

  pub alike-left : p < length heap
  alike-left = row_inside heap (due - 1) p (more-whole p a.left)

  pub alike_right : q < length heap
  alike_right = row_inside heap (due - 1) q (more-whole q a.right)

  pub alike-few : due ≤ length heap
  alike-few = rows_few heap due p a.left

  module _ (valids : Valids heap) {u v : ℕ} (eu : u ≡ get_or heap p 0) (ev : v ≡ get_or heap q 0) (high : 33554432 ≤ u) (same : u ≡ v) where
    plain : (r : ℕ) → u ≡ get_or heap r 0 → Plain (get_or heap r 0)
    plain r e k = omega (arith, e, high, k)

    stands : (τ : Subst) (r : ℕ) → r < length heap → u ≡ get_or heap r 0 → apply τ (rows heap due r) ≡ node u ∷ apply τ (rows heap (arity_of u + (due - 1)) (suc r))
    stands τ r l e = rw e (ap (λ n. apply τ (rows heap n r)) is-more ∙ stands-symbol heap (due - 1) r l (valids r l) (plain r e) τ)

    next : (r : ℕ) → r < length heap → u ≡ get_or heap r 0 → Whole heap due r → Whole heap (arity_of u + (due - 1)) (suc r)
    next r l e w = rw e (whole-sym heap (due - 1) r l (valids r l) (plain r e) (more-whole r w))

    pub alike-more : {p' q' due' k : ℕ} → k ≡ arity_of u → p' ≡ suc p → q' ≡ suc q → due' ≡ due - 1 + k → Alike heap x (record { p = p'; q = q'; due = due'; depth = depth })
    alike-more {due' = due'} ek ep eq ed = rw ep (rw eq (rw count (record {
      left = next p alike-left eu a.left;
      right = next q alike_right (same ∙ ev) a.right;
      depth = a.depth;
      just = λ τ.
          let l = stands τ p alike-left eu in
          let r = stands τ q alike_right (same ∙ ev) in (
            λ e. ap (drop 1) (inv l ∙ (a.just τ).0 e ∙ r),
            λ e. (a.just τ).1 (l ∙ ap (λ z. node u ∷ z) e ∙ inv r),
          );
    })))
      where
        count : due' ≡ arity_of u + (due - 1)
        count = omega (arith, ed, ek)

-- the first of two rows, and the others
module _ (heap : List ℕ) (d p q : ℕ) (left : Whole heap (suc d) p) (right : Whole heap (suc d) q) {p' q' : ℕ} (ep : p' ≡ p + length (rows heap 1 p)) (eq : q' ≡ q + length (rows heap 1 q)) where
  pub equal-first : (τ : Subst) → Proper τ → Equal heap τ (suc d) p q ↔ (Equal heap τ 1 p q × Equal heap τ d p' q')
  equal-first τ proper = (
    λ e. row_unique (apply-row τ proper (first-whole heap d p left)) (apply-row τ proper (first-whole heap d q right)) _ _ (inv (parts p p' left ep) ∙ e ∙ parts q q' right eq),
    λ (a, b). parts p p' left ep ∙ ap₂ ◌++◌ a b ∙ inv (parts q q' right eq),
  )
    where
      parts : (r r' : ℕ) (w : Whole heap (suc d) r) → r' ≡ r + length (rows heap 1 r) → apply τ (rows heap (suc d) r) ≡ apply τ (rows heap 1 r) ++ apply τ (rows heap d r')
      parts r r' w e = ap (apply τ) (rows-first heap d r w e) ∙ apply-append τ (rows heap 1 r) (rows heap d r')

module _ (heap : List ℕ) (x : Pairs) (some : 0 < x.due) (left : Whole heap x.due x.p) (right : Whole heap x.due x.q) where
  abbrev d : ℕ
  d = x.due - 1

  is : x.due ≡ suc d
  is = omega (arith, some)

  at : (r : ℕ) → Whole heap x.due r → r < length heap
  at r w = row_inside heap d r (subst (λ n. Whole heap n r) is w)

  pub behind_more : {p' q' n : ℕ} → p' ≡ x.p + length (rows heap 1 x.p) → q' ≡ x.q + length (rows heap 1 x.q) → n ≡ d → Behind heap x (record { p = p'; q = q'; due = n; depth = x.depth })
  behind_more {p'} {q'} ep eq en = rw en (record {
    left = rest-whole heap d x.p (subst (λ n. Whole heap n x.p) is left) ep;
    right = rest-whole heap d x.q (subst (λ n. Whole heap n x.q) is right) eq;
    left_on = omega (arith, ep);
    right_on = omega (arith, eq);
    left_inside = omega (arith, ep, rows_inside heap 1 x.p (omega (arith, at x.p left)));
    right_inside = omega (arith, eq, rows_inside heap 1 x.q (omega (arith, at x.q right)));
    due = refl;
    depth = refl;
    just = λ τ proper. subst (λ n. Equal heap τ n x.p x.q ↔ (Equal heap τ 1 x.p x.q × Equal heap τ d p' q')) (inv is)
        (equal-first heap d x.p x.q (subst (λ n. Whole heap n x.p) is left) (subst (λ n. Whole heap n x.q) is right) ep eq τ proper);
  })

  pub behind_last : x.due ≡ 1 → Behind heap x (record { p = x.p; q = x.q; due = 0; depth = x.depth })
  behind_last e = record {
    left = none x.p;
    right = none x.q;
    left_on = omega arith;
    right_on = omega arith;
    left_inside = omega (arith, at x.p left);
    right_inside = omega (arith, at x.q right);
    due = omega (arith, e);
    depth = refl;
    just = λ τ proper. (
      λ a. (subst (λ n. Equal heap τ n x.p x.q) e a, ap (apply τ) (rows_none heap x.p ∙ inv (rows_none heap x.q))),
      λ (a, b). subst (λ n. Equal heap τ n x.p x.q) (inv e) a,
    );
  }
    where
      none : (r : ℕ) → Whole heap 0 r
      none r = subst (Row 0) (inv (rows_none heap r)) row_end

pub first-row-whole : (heap : List ℕ) (n r : ℕ) → 0 < n → Whole heap n r → Whole heap 1 r
first-row-whole heap n r l w = first-whole heap (n - 1) r (subst (λ m. Whole heap m r) (omega (arith, l)) w)

-- nothing is due
pub none-due : (heap : List ℕ) (τ : Subst) (p q n : ℕ) → n ≡ 0 → Equal heap τ n p q
none-due heap τ p q n e = rw e (ap (apply τ) (rows_none heap p ∙ inv (rows_none heap q)))

-- A level that is done.
module _ (levels : List ℕ) where
  pub settled-due : (x : Pairs) → 0 < x.due → Settled levels x x
  settled-due x l = record { due = λ heap d. d; ended = λ heap d z. absurd (omega (arith, l, z)); deep = omega arith; just = λ heap τ. (λ e. e, λ e. e) }

  pub settled-last : (x : Pairs) → x.depth ≡ 0 → Settled levels x x
  settled-last x e = record { due = λ heap d. d; ended = λ heap d z. e; deep = omega arith; just = λ heap τ. (λ e. e, λ e. e) }

  pub settled_before : (x : Pairs) → x.due ≤ 0 → (x.depth ≡ 0 → ⊥) → {p q due depth : ℕ} → p ≡ level_left levels (x.depth - 1) → q ≡ level_right levels (x.depth - 1) → due ≡ level_due levels (x.depth - 1)
      → depth ≡ x.depth - 1 → Settled levels x (record { p = p; q = q; due = due; depth = depth })
  settled_before x z n ep eq ed en = rw ep (rw eq (rw ed (rw en (record {
    due = λ heap d. let b = d.back last (omega (arith, n)) in record { left = b.0; right = b.1; back = λ i l. d.back i (omega (arith, l, n)); room = omega (arith, d.room, n) };
    ended = λ heap d e. absurd (omega (arith, (d.back last (omega (arith, n))).2, e));
    deep = omega arith;
    just = λ heap τ. (
      λ a. (none-due heap τ x.p x.q x.due (omega (arith, z)), subst (EqualLevels heap levels τ) (inv is) a),
      λ a. subst (EqualLevels heap levels τ) is a.1,
    );
  }))))
    where
      last : ℕ
      last = x.depth - 1

      is : x.depth ≡ suc (x.depth - 1)
      is = omega (arith, n)

-- A level that is kept.
module _ (levels : List ℕ) (n p q d : ℕ) (room : 3 * n + 3 ≤ length levels) where
  abbrev more : List ℕ
  more = set (set (set levels (3 * n) p) (3 * n + 1) q) (3 * n + 2) d

  more-long : length more ≡ length levels
  more-long = length-set (set (set levels (3 * n) p) (3 * n + 1) q) (3 * n + 2) d ∙ length-set (set levels (3 * n) p) (3 * n + 1) q ∙ length-set levels (3 * n) p

  more_left : level_left more n ≡ p
  more_left =
      get_or-set_other (set (set levels (3 * n) p) (3 * n + 1) q) (3 * n + 2) (3 * n) d 0 (λ e. omega arith) ∙ get_or-set_other (set levels (3 * n) p) (3 * n + 1) (3 * n) q 0 (λ e. omega arith)
      ∙ get_or-set_same levels (3 * n) p 0 (omega (arith, room))

  more-right : level_right more n ≡ q
  more-right =
      get_or-set_other (set (set levels (3 * n) p) (3 * n + 1) q) (3 * n + 2) (3 * n + 1) d 0 (λ e. omega arith)
      ∙ get_or-set_same (set levels (3 * n) p) (3 * n + 1) q 0 (omega (arith, room, length-set levels (3 * n) p))

  more-due : level_due more n ≡ d
  more-due = get_or-set_same (set (set levels (3 * n) p) (3 * n + 1) q) (3 * n + 2) d 0 (omega (arith, room, length-set (set levels (3 * n) p) (3 * n + 1) q, length-set levels (3 * n) p))

  below : (j : ℕ) → j < 3 * n → get_or more j 0 ≡ get_or levels j 0
  below j l =
      get_or-set_other (set (set levels (3 * n) p) (3 * n + 1) q) (3 * n + 2) j d 0 (λ e. omega arith) ∙ get_or-set_other (set levels (3 * n) p) (3 * n + 1) j q 0 (λ e. omega arith)
      ∙ get_or-set_other levels (3 * n) j p 0 (λ e. omega arith)

  more-levels : (heap : List ℕ) (τ : Subst) (m : ℕ) → m ≤ n → EqualLevels heap more τ m ≡ EqualLevels heap levels τ m
  more-levels heap τ zero l = refl
  more-levels heap τ (suc m) l =
      rw (below (3 * m) (omega arith)) (rw (below (3 * m + 1) (omega arith)) (rw (below (3 * m + 2) (omega arith))
      (ap (λ T. Equal heap τ (level_due levels m) (level_left levels m) (level_right levels m) × T) (more-levels heap τ m (omega arith)))))

module _ (levels : List ℕ) (x : Pairs) (a b k : ℕ) where
  pub entered-alone : x.due ≡ 0 → Entered levels x a b k levels (record { p = a; q = b; due = k; depth = x.depth })
  entered-alone z = record {
    due = λ heap d l r. record { left = l; right = r; back = d.back; room = d.room };
    count = refl;
    deep = omega arith;
    long = refl;
    just = λ heap τ. (λ y. (y.0, (none-due heap τ x.p x.q x.due z, y.1)), λ y. (y.0, y.1.1));
  }

  pub entered-more : (x.due ≡ 0 → ⊥) → (room : 3 * x.depth + 3 ≤ length levels) → {n : ℕ} → n ≡ suc x.depth
      → Entered levels x a b k (more levels x.depth x.p x.q x.due room) (record { p = a; q = b; due = k; depth = n })
  entered-more n room e = rw e (record {
    due = λ heap d l r. record {
      left = l;
      right = r;
      back = λ i h. elim (ℕ_discrete i x.depth) [
        | yes z ↦ rw z (rw left (rw right (rw count (d.left, d.right, omega (arith, n)))))
        | no m ↦ rw (old (3 * i) (omega (arith, h, m))) (rw (old (3 * i + 1) (omega (arith, h, m))) (rw (old (3 * i + 2) (omega (arith, h, m))) (d.back i (omega (arith, h, m)))))
      ];
      room = omega (arith, room, more-long levels x.depth x.p x.q x.due room);
    };
    count = refl;
    deep = omega arith;
    long = more-long levels x.depth x.p x.q x.due room;
    just = λ heap τ.
        let same = more-levels levels x.depth x.p x.q x.due room heap τ x.depth (omega arith) in (
          λ y. (y.0, (rw left at (rw right at (rw count at y.1.0)), transport same y.1.1)),
          λ y. (y.0, (rw left (rw right (rw count y.1.0)), transport (inv same) y.1.1)),
        );
  })
    where
      left : level_left (more levels x.depth x.p x.q x.due room) x.depth ≡ x.p
      left = more_left levels x.depth x.p x.q x.due room

      right : level_right (more levels x.depth x.p x.q x.due room) x.depth ≡ x.q
      right = more-right levels x.depth x.p x.q x.due room

      count : level_due (more levels x.depth x.p x.q x.due room) x.depth ≡ x.due
      count = more-due levels x.depth x.p x.q x.due room

      old : (j : ℕ) → j < 3 * x.depth → get_or (more levels x.depth x.p x.q x.due room) j 0 ≡ get_or levels j 0
      old = below levels x.depth x.p x.q x.due room
