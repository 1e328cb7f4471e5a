use Rattle.std.proofs.Common.{None, Some}
use Prim.Native.Nat.{ℕ, ◌+◌, ◌/◌, ◌<◌}
use native.Mathlib.Omega.{arith}
use mathlib.Core.Path.{◌≡◌, refl, sym, ap, ◌∙◌}
use mathlib.Core.List.{List, [], ◌∷◌}
use lib.ListN.{length, get_or, set}
use Rattle.words.specs.Columns.{Only, Put, after, wider, UP, PICK, LEFT, RIGHT}
use Rattle.positions.specs.Steps.{state, Ready, Outcome}
use Rattle.positions.specs.Tables.{ups, picks, lefts, rights, state_in}
use Rattle.joining.proofs.Linked.{in_a, in_b, room, bare-b, bare-a, both, differ}
use borrow.Author.Rules.{rules}
use Rattle.joining.proofs.link.Goals as goal

module _ (w up pick left right : List ℕ) (tail a b x y : ℕ) (pre : Ready w (state up pick left right tail) × (a < b) × (b < length w) × (get_or up a 0 ≡ a) × (get_or up b 0 ≡ b))
    (ex : x ≡ get_or pick a 0) (ey : y ≡ get_or pick b 0) where
  x_in : x < length w
  x_in = rw ex (in_a w up pick left right tail a b pre.0 pre.1 pre.2 pre.3 pre.4)

  y_in : y < length w
  y_in = rw ey (in_b w up pick left right tail a b pre.0 pre.1 pre.2 pre.3 pre.4)

  free : tail < length w
  free = room w up pick left right tail a b pre.0 pre.1 pre.2 pre.3 pre.4

  module _ (u v : ℕ) (eu : u ≡ get_or w x 0) (ev : v ≡ get_or w y 0) where
    eu' : u ≡ get_or w (get_or pick a 0) 0
    eu' = eu ∙ ap (λ z. get_or w z 0) ex

    ev' : v ≡ get_or w (get_or pick b 0) 0
    ev' = ev ∙ ap (λ z. get_or w z 0) ey

    one : v / 16777216 ≡ 1 → Outcome w (state up pick left right tail) (λ f. f a ≡ f b) (state (set up b a) pick left right) (Some tail)
    one k = record {
      known = bare-b w up pick left right tail a b pre.0 pre.1 pre.2 pre.3 pre.4 (λ p. p (ap (λ z. z / 16777216) (sym ev') ∙ k));
    }

    two : u / 16777216 ≡ 1 → Outcome w (state up pick left right tail) (λ f. f a ≡ f b) (state (set up b a) (set pick a y) left right) (Some tail)
    two k = record {
      known = rw ey (bare-a w up pick left right tail a b pre.0 pre.1 pre.2 pre.3 pre.4 (λ p. p (ap (λ z. z / 16777216) (sym eu') ∙ k)));
    }

    three : (u / 16777216 ≡ 1 → ⊥) → u ≡ v → Outcome w (state up pick left right tail) (λ f. f a ≡ f b) (state (set up b a) pick (set left tail x) (set right tail y)) (Some (tail + 1))
    three k e = record {
      known = rw (ex, ey) (both w up pick left right tail a b pre.0 pre.1 pre.2 pre.3 pre.4 (λ z. k (ap (λ z. z / 16777216) eu' ∙ z)) (sym eu' ∙ e ∙ ev'));
    }

    four : (u / 16777216 ≡ 1 → ⊥) → (v / 16777216 ≡ 1 → ⊥) → (u ≡ v → ⊥) → Outcome w (state up pick left right tail) (λ f. f a ≡ f b) (state (set up b a) pick left right) None
    four ku kv e = record {
      known = differ w up pick left right tail a b pre.0 pre.1 pre.2 pre.3 pre.4 (λ z. ku (ap (λ z. z / 16777216) eu' ∙ z)) (λ z. kv (ap (λ z. z / 16777216) ev' ∙ z)) (λ z. e (eu' ∙ z ∙ sym ev'));
    }

-- the same of rows, and what the stores leave
record Linking (w rows : List ℕ) (tail a b x y : ℕ) : Type 0 where
  pre : Ready w (state_in w rows tail) × (a < b) × (b < length w) × (get_or (ups w rows) a 0 ≡ a) × (get_or (ups w rows) b 0 ≡ b)
  ex : x ≡ get_or (picks w rows) a 0
  ey : y ≡ get_or (picks w rows) b 0

module _ {w rows : List ℕ} {tail a b x y : ℕ} (l : Linking w rows tail a b x y) where
  x_in_in : x < length w
  x_in_in = x_in w (ups w rows) (picks w rows) (lefts w rows) (rights w rows) tail a b x y l.pre l.ex l.ey

  y_in_in : y < length w
  y_in_in = y_in w (ups w rows) (picks w rows) (lefts w rows) (rights w rows) tail a b x y l.pre l.ex l.ey

  free_in : tail < 4352
  free_in = omega (arith, free w (ups w rows) (picks w rows) (lefts w rows) (rights w rows) tail a b x y l.pre l.ex l.ey, l.pre.0.grouped.small)

  module _ (z : List ℕ) (s : Put UP b a rows z) where
    changes : Only (UP ∷ PICK ∷ LEFT ∷ RIGHT ∷ []) rows z
    changes = wider (UP ∷ PICK ∷ LEFT ∷ RIGHT ∷ []) refl s.only

    module _ {u v : ℕ} (eu : u ≡ get_or w x 0) (ev : v ≡ get_or w y 0) where
      one_in : v / 16777216 ≡ 1 → Outcome w (state_in w rows tail) (λ f. f a ≡ f b) (state_in w z) (Some tail)
      one_in k = record { known = rw (s.here (length w), s.only.kept PICK (length w) refl, s.only.kept LEFT (length w) refl, s.only.kept RIGHT (length w) refl) (one w (ups w rows) (picks w rows) (lefts w rows) (rights w rows) tail a b x y l.pre l.ex l.ey u v eu ev k).known }

      two_in : (q : List ℕ) → Put PICK a y z q → u / 16777216 ≡ 1 → Outcome w (state_in w rows tail) (λ f. f a ≡ f b) (state_in w q) (Some tail) × Only (UP ∷ PICK ∷ LEFT ∷ RIGHT ∷ []) rows q
      two_in q p k = (
        record { known = rw (p.here (length w), p.only.kept UP (length w) refl, p.only.kept LEFT (length w) refl, p.only.kept RIGHT (length w) refl) (rw (s.here (length w), s.only.kept PICK (length w) refl, s.only.kept LEFT (length w) refl, s.only.kept RIGHT (length w) refl) (two w (ups w rows) (picks w rows) (lefts w rows) (rights w rows) tail a b x y l.pre l.ex l.ey u v eu ev k).known) },
        after changes (wider (UP ∷ PICK ∷ LEFT ∷ RIGHT ∷ []) refl p.only),
      )

      three-in : (p q : List ℕ) → Put LEFT tail x z p → Put RIGHT tail y p q → (u / 16777216 ≡ 1 → ⊥) → u ≡ v
          → Outcome w (state_in w rows tail) (λ f. f a ≡ f b) (state_in w q) (Some (tail + 1)) × Only (UP ∷ PICK ∷ LEFT ∷ RIGHT ∷ []) rows q
      three-in p q c d k e = (
        record { known = rw (d.here (length w), d.only.kept UP (length w) refl, d.only.kept PICK (length w) refl, d.only.kept LEFT (length w) refl) (rw (c.here (length w), c.only.kept UP (length w) refl, c.only.kept PICK (length w) refl, c.only.kept RIGHT (length w) refl) (rw (s.here (length w), s.only.kept PICK (length w) refl, s.only.kept LEFT (length w) refl, s.only.kept RIGHT (length w) refl) (three w (ups w rows) (picks w rows) (lefts w rows) (rights w rows) tail a b x y l.pre l.ex l.ey u v eu ev k e).known)) },
        after changes (after (wider (UP ∷ PICK ∷ LEFT ∷ RIGHT ∷ []) refl c.only) (wider (UP ∷ PICK ∷ LEFT ∷ RIGHT ∷ []) refl d.only)),
      )

      four-in : (u / 16777216 ≡ 1 → ⊥) → (v / 16777216 ≡ 1 → ⊥) → (u ≡ v → ⊥) → Outcome w (state_in w rows tail) (λ f. f a ≡ f b) (state_in w z) None
      four-in ku kv e = record { known = (four w (ups w rows) (picks w rows) (lefts w rows) (rights w rows) tail a b x y l.pre l.ex l.ey u v eu ev ku kv e).known }

pub word-u-requires : goal.word-u-requires
word-u-requires c = x_in_in ((let here : let a = c.args in Linking a.words.now a.rows.now a.tail a.a a.b c.cell-x.result c.cell-y.result = let q = c.requires in record { pre = (q.0, q.1, q.2, q.3, q.4); ex = c.cell-x.ensures.0 _ (omega arith); ey = c.cell-y.ensures.0 _ q.2 } in here))

pub word-v-requires : goal.word-v-requires
word-v-requires c = y_in_in ((let here : let a = c.args in Linking a.words.now a.rows.now a.tail a.a a.b c.cell-x.result c.cell-y.result = let q = c.requires in record { pre = (q.0, q.1, q.2, q.3, q.4); ex = c.cell-x.ensures.0 _ (omega arith); ey = c.cell-y.ensures.0 _ q.2 } in here))

pub returns-then-kv-eq1 : goal.returns-then-kv-eq1
returns-then-kv-eq1 c = (one_in ((let here : let a = c.args in Linking a.words.now a.rows.now a.tail a.a a.b c.cell-x.result c.cell-y.result = let q = c.requires in record { pre = (q.0, q.1, q.2, q.3, q.4); ex = c.cell-x.ensures.0 _ (omega arith); ey = c.cell-y.ensures.0 _ q.2 } in here)) _ c.put.ensures c.word-u.ensures c.word-v.ensures c.if-kv-eq1.true, changes ((let here : let a = c.args in Linking a.words.now a.rows.now a.tail a.a a.b c.cell-x.result c.cell-y.result = let q = c.requires in record { pre = (q.0, q.1, q.2, q.3, q.4); ex = c.cell-x.ensures.0 _ (omega arith); ey = c.cell-y.ensures.0 _ q.2 } in here)) _ c.put.ensures)

pub returns-then-ku-eq1 : goal.returns-then-ku-eq1
returns-then-ku-eq1 c = two_in ((let here : let a = c.args in Linking a.words.now a.rows.now a.tail a.a a.b c.cell-x.result c.cell-y.result = let q = c.requires in record { pre = (q.0, q.1, q.2, q.3, q.4); ex = c.cell-x.ensures.0 _ (omega arith); ey = c.cell-y.ensures.0 _ q.2 } in here)) _ c.put.ensures c.word-u.ensures c.word-v.ensures _ c.put-then-ku-eq1.ensures c.if-ku-eq1.true

pub put-requires-then-u-v : goal.put-requires-then-u-v
put-requires-then-u-v c = (search rules, free_in ((let here : let a = c.args in Linking a.words.now a.rows.now a.tail a.a a.b c.cell-x.result c.cell-y.result = let q = c.requires in record { pre = (q.0, q.1, q.2, q.3, q.4); ex = c.cell-x.ensures.0 _ (omega arith); ey = c.cell-y.ensures.0 _ q.2 } in here)), c.cell-x.ensures.1)

pub put-requires-then-u-v-2 : goal.put-requires-then-u-v-2
put-requires-then-u-v-2 c = (search rules, free_in ((let here : let a = c.args in Linking a.words.now a.rows.now a.tail a.a a.b c.cell-x.result c.cell-y.result = let q = c.requires in record { pre = (q.0, q.1, q.2, q.3, q.4); ex = c.cell-x.ensures.0 _ (omega arith); ey = c.cell-y.ensures.0 _ q.2 } in here)), c.cell-y.ensures.1)

pub overflow_add-result : goal.overflow_add-result
overflow_add-result c = record { fits = omega (arith, free_in ((let here : let a = c.args in Linking a.words.now a.rows.now a.tail a.a a.b c.cell-x.result c.cell-y.result = let q = c.requires in record { pre = (q.0, q.1, q.2, q.3, q.4); ex = c.cell-x.ensures.0 _ (omega arith); ey = c.cell-y.ensures.0 _ q.2 } in here))) }

pub returns-then-u-v : goal.returns-then-u-v
returns-then-u-v c = three-in ((let here : let a = c.args in Linking a.words.now a.rows.now a.tail a.a a.b c.cell-x.result c.cell-y.result = let q = c.requires in record { pre = (q.0, q.1, q.2, q.3, q.4); ex = c.cell-x.ensures.0 _ (omega arith); ey = c.cell-y.ensures.0 _ q.2 } in here)) _ c.put.ensures c.word-u.ensures c.word-v.ensures _ _ c.put-then-u-v.ensures c.put-then-u-v-2.ensures c.if-ku-eq1.false c.if-u-v.true

pub returns : goal.returns
returns c = (four-in ((let here : let a = c.args in Linking a.words.now a.rows.now a.tail a.a a.b c.cell-x.result c.cell-y.result = let q = c.requires in record { pre = (q.0, q.1, q.2, q.3, q.4); ex = c.cell-x.ensures.0 _ (omega arith); ey = c.cell-y.ensures.0 _ q.2 } in here)) _ c.put.ensures c.word-u.ensures c.word-v.ensures c.if-ku-eq1.false c.if-kv-eq1.false c.if-u-v.false, changes ((let here : let a = c.args in Linking a.words.now a.rows.now a.tail a.a a.b c.cell-x.result c.cell-y.result = let q = c.requires in record { pre = (q.0, q.1, q.2, q.3, q.4); ex = c.cell-x.ensures.0 _ (omega arith); ey = c.cell-y.ensures.0 _ q.2 } in here)) _ c.put.ensures)
