use Prim.Native.Nat.{ℕ, ◌+◌, ◌<◌}
use native.Mathlib.Omega.{arith}
use mathlib.Core.Path.{◌≡◌, refl, sym, ap, ◌∙◌}
use mathlib.Core.List.{List, [], ◌∷◌}
use lib.ListN.{length, get_or, set}
use Prim.Native.Nat.{◌/◌, ◌%◌}
use Rattle.words.specs.Word.{kind_of}
use Rattle.words.specs.Columns.{column-length, Put, Only, same, after, wider, ROWS, UP, PICK, FIRST}
use Rattle.positions.specs.Starting.{Worded, Slots}
use Rattle.positions.specs.Tables.{ups, picks, firsts}
use Rattle.positions.proofs.Slotted.{alone, known, fresh, unseen}
use borrow.Author.Rules.{rules}
use Rattle.positions.proofs.starting.seat.Goals as goal

-- x is the storage after `pick` has the position
record Seating (w rows x : List ℕ) (p u : ℕ) : Type 0 where
  ok : Worded w 4352
  l : p < length w
  sl : Slots w (ups w rows) (picks w rows) (firsts rows) p
  eu : u ≡ get_or w p 0
  own : Put PICK p p rows x

module _ {w rows x : List ℕ} {p u : ℕ} (t : Seating w rows x p u) where
  lu : length (ups w rows) ≡ length w
  lu = column-length UP (length w) rows

  lp : length (picks w rows) ≡ length w
  lp = column-length PICK (length w) rows

  lf : length (firsts rows) ≡ 4352
  lf = column-length FIRST ROWS rows

  -- what a store of q into `up` leaves
  left : (y z f : List ℕ) (q : ℕ) → Only (FIRST ∷ []) x y → Put UP p q y z → firsts y ≡ f → Slots w (set (ups w rows) p q) (set (picks w rows) p p) f (p + 1) → Slots w (ups w z) (picks w z) (firsts z) (p + 1)
  left y z f q o s ef h =
      rw (s.here (length w), s.only.kept PICK (length w) refl, s.only.kept FIRST ROWS refl, o.kept UP (length w) refl, o.kept PICK (length w) refl, ef, t.own.here (length w), t.own.only.kept UP (length w) refl) h

  changes : (y z : List ℕ) (q : ℕ) → Only (FIRST ∷ []) x y → Put UP p q y z → Only (UP ∷ PICK ∷ FIRST ∷ []) rows z
  changes y z q o s = after (wider (UP ∷ PICK ∷ FIRST ∷ []) refl t.own.only) (after (wider (UP ∷ PICK ∷ FIRST ∷ []) refl o) (wider (UP ∷ PICK ∷ FIRST ∷ []) refl s.only))

  bare : (u / 16777216 ≡ 1 → ⊥) → Slots w (set (ups w rows) p p) (set (picks w rows) p p) (firsts rows) (p + 1)
  bare n = alone w (ups w rows) (picks w rows) (firsts rows) 4352 p t.ok t.l lu lp lf t.sl (λ z. n (ap kind_of t.eu ∙ z))

  module _ (isv : u / 16777216 ≡ 1) where
    in_f : u % 65536 < 4352
    in_f = rw t.eu (t.ok.number p t.l (ap kind_of (sym t.eu) ∙ isv))

    module _ (q : ℕ) (eq : q ≡ get_or (firsts x) (u % 65536) 0) where
      eq' : q ≡ get_or (firsts rows) (get_or w p 0 % 65536) 0
      eq' = eq ∙ ap (λ f. get_or f (u % 65536) 0) (t.own.only.kept FIRST ROWS refl) ∙ ap (λ z. get_or (firsts rows) (z % 65536) 0) t.eu

      seen : (k : ℕ) → q < p → k ≡ get_or w q 0 → k ≡ u → Slots w (set (ups w rows) p q) (set (picks w rows) p p) (firsts rows) (p + 1)
      seen k h et e = known w (ups w rows) (picks w rows) (firsts rows) 4352 p t.ok t.l lu lp lf t.sl (ap kind_of (sym t.eu) ∙ isv) q eq' h (sym et ∙ e ∙ t.eu)

      new : (q < p → get_or w q 0 ≡ get_or w p 0 → ⊥) → Slots w (set (ups w rows) p p) (set (picks w rows) p p) (set (firsts rows) (u % 65536) p) (p + 1)
      new n = rw t.eu (fresh w (ups w rows) (picks w rows) (firsts rows) 4352 p t.ok t.l lu lp lf t.sl (ap kind_of (sym t.eu) ∙ isv)
          (unseen w (ups w rows) (picks w rows) (firsts rows) 4352 p t.ok t.l lu lp lf t.sl (ap kind_of (sym t.eu) ∙ isv) q eq' n))

      new_in : (y z : List ℕ) → Put FIRST (u % 65536) p x y → Put UP p p y z → (q < p → get_or w q 0 ≡ get_or w p 0 → ⊥) → Slots w (ups w z) (picks w z) (firsts z) (p + 1) × Only (UP ∷ PICK ∷ FIRST ∷ []) rows z
      new_in y z f s n =
          (left y z (set (firsts rows) (u % 65536) p) p f.only s (f.here 4352 ∙ ap (λ l. set l (u % 65536) p) (t.own.only.kept FIRST ROWS refl)) (new n), changes y z p f.only s)

pub cell-q-requires : goal.cell-q-requires
cell-q-requires c = (search rules, in_f ((let here : let a = c.args in Seating a.words.now a.rows.now c.put.new.rows a.p c.word-w.result = let q = c.requires in record { ok = q.0; l = q.1; sl = q.2; eu = c.word-w.ensures; own = c.put.ensures } in here)) c.if-kind-eq1.true)

pub returns-then-u-w : goal.returns-then-u-w
returns-then-u-w c = (left ((let here : let a = c.args in Seating a.words.now a.rows.now c.put.new.rows a.p c.word-w.result = let q = c.requires in record { ok = q.0; l = q.1; sl = q.2; eu = c.word-w.ensures; own = c.put.ensures } in here)) _ _ _ _ same c.put-then-u-w.ensures (c.put.ensures.only.kept FIRST ROWS refl) (seen ((let here : let a = c.args in Seating a.words.now a.rows.now c.put.new.rows a.p c.word-w.result = let q = c.requires in record { ok = q.0; l = q.1; sl = q.2; eu = c.word-w.ensures; own = c.put.ensures } in here)) c.if-kind-eq1.true _ (c.cell-q.ensures.0 _ (in_f ((let here : let a = c.args in Seating a.words.now a.rows.now c.put.new.rows a.p c.word-w.result = let q = c.requires in record { ok = q.0; l = q.1; sl = q.2; eu = c.word-w.ensures; own = c.put.ensures } in here)) c.if-kind-eq1.true)) _ c.if-q-p.true c.word-u.ensures c.if-u-w.true), changes ((let here : let a = c.args in Seating a.words.now a.rows.now c.put.new.rows a.p c.word-w.result = let q = c.requires in record { ok = q.0; l = q.1; sl = q.2; eu = c.word-w.ensures; own = c.put.ensures } in here)) _ _ _ same c.put-then-u-w.ensures)

pub put-requires-then-q-p : goal.put-requires-then-q-p
put-requires-then-q-p c = (search rules, in_f ((let here : let a = c.args in Seating a.words.now a.rows.now c.put.new.rows a.p c.word-w.result = let q = c.requires in record { ok = q.0; l = q.1; sl = q.2; eu = c.word-w.ensures; own = c.put.ensures } in here)) c.if-kind-eq1.true, omega (arith, c.requires.0.small, c.requires.1))

pub returns-then-q-p : goal.returns-then-q-p
returns-then-q-p c = new_in ((let here : let a = c.args in Seating a.words.now a.rows.now c.put.new.rows a.p c.word-w.result = let q = c.requires in record { ok = q.0; l = q.1; sl = q.2; eu = c.word-w.ensures; own = c.put.ensures } in here)) c.if-kind-eq1.true _ (c.cell-q.ensures.0 _ (in_f ((let here : let a = c.args in Seating a.words.now a.rows.now c.put.new.rows a.p c.word-w.result = let q = c.requires in record { ok = q.0; l = q.1; sl = q.2; eu = c.word-w.ensures; own = c.put.ensures } in here)) c.if-kind-eq1.true)) _ _ c.put-then-q-p.ensures c.put-then-q-p-2.ensures (λ l e. c.if-u-w.false (c.word-u.ensures ∙ e ∙ sym c.word-w.ensures))

pub put-requires-then-kind-eq1 : goal.put-requires-then-kind-eq1
put-requires-then-kind-eq1 c = (search rules, in_f ((let here : let a = c.args in Seating a.words.now a.rows.now c.put.new.rows a.p c.word-w.result = let q = c.requires in record { ok = q.0; l = q.1; sl = q.2; eu = c.word-w.ensures; own = c.put.ensures } in here)) c.if-kind-eq1.true, omega (arith, c.requires.0.small, c.requires.1))

pub returns-then-kind-eq1 : goal.returns-then-kind-eq1
returns-then-kind-eq1 c = new_in ((let here : let a = c.args in Seating a.words.now a.rows.now c.put.new.rows a.p c.word-w.result = let q = c.requires in record { ok = q.0; l = q.1; sl = q.2; eu = c.word-w.ensures; own = c.put.ensures } in here)) c.if-kind-eq1.true _ (c.cell-q.ensures.0 _ (in_f ((let here : let a = c.args in Seating a.words.now a.rows.now c.put.new.rows a.p c.word-w.result = let q = c.requires in record { ok = q.0; l = q.1; sl = q.2; eu = c.word-w.ensures; own = c.put.ensures } in here)) c.if-kind-eq1.true)) _ _ c.put-then-kind-eq1.ensures c.put-then-kind-eq1-2.ensures (λ l e. omega (arith, l, c.if-q-p.false))

pub returns : goal.returns
returns c = (left ((let here : let a = c.args in Seating a.words.now a.rows.now c.put.new.rows a.p c.word-w.result = let q = c.requires in record { ok = q.0; l = q.1; sl = q.2; eu = c.word-w.ensures; own = c.put.ensures } in here)) _ _ _ _ same c.put-2.ensures (c.put.ensures.only.kept FIRST ROWS refl) (bare ((let here : let a = c.args in Seating a.words.now a.rows.now c.put.new.rows a.p c.word-w.result = let q = c.requires in record { ok = q.0; l = q.1; sl = q.2; eu = c.word-w.ensures; own = c.put.ensures } in here)) c.if-kind-eq1.false), changes ((let here : let a = c.args in Seating a.words.now a.rows.now c.put.new.rows a.p c.word-w.result = let q = c.requires in record { ok = q.0; l = q.1; sl = q.2; eu = c.word-w.ensures; own = c.put.ensures } in here)) _ _ _ same c.put-2.ensures)
