use Prim.Native.Nat.{ℕ, ◌<◌}
use native.Mathlib.Omega.{arith}
use mathlib.Core.Path.{◌≡◌, ap, ◌∙◌}
use mathlib.Core.List.{List}
use lib.ListN.{get_or}
use Rattle.words.specs.Columns.{column, column-length, Put, same, after, UP}
use Rattle.positions.specs.Steps.{Flat}
use Rattle.joining.proofs.Flats.{flat_refl, flat_trans, halved-any}
use borrow.Author.Rules.{rules}
use Rattle.joining.proofs.flatten.Goals as goal

module _ (n : ℕ) (rows₀ rows : List ℕ) (p q : ℕ) (flat : Flat (column UP n rows₀) (column UP n rows)) (inn : p < n) (eq : q ≡ get_or (column UP n rows) p 0) where
  in_q : q < n
  in_q = omega (arith, flat.down p, eq)

  flatter : (g : ℕ) (z : List ℕ) → g ≡ get_or (column UP n rows) q 0 → Put UP p g rows z → Flat (column UP n rows₀) (column UP n z)
  flatter g z eg s = flat_trans (column UP n rows₀) (column UP n rows) (column UP n z) flat
      (let e : g ≡ get_or (column UP n rows) (get_or (column UP n rows) p 0) 0 = eg ∙ ap (λ i. get_or (column UP n rows) i 0) eq in
      rw (s.here n) (rw e (halved-any (column UP n rows) flat.down p (omega (arith, column-length UP n rows)))))

pub loop-p-init : goal.loop-p-init
loop-p-init c = (flat_refl _ c.requires.1, search rules, search rules, same)

pub cell-g-requires : goal.cell-g-requires
cell-g-requires c = (search rules, omega (arith, in_q _ _ _ _ _ c.loop-p.invariant.0 c.loop-p-test.true (c.cell-q.ensures.0 _ c.loop-p-test.true)))

pub loop-p-preserved : goal.loop-p-preserved
loop-p-preserved c = (flatter _ _ _ _ _ c.loop-p.invariant.0 c.loop-p-test.true (c.cell-q.ensures.0 _ c.loop-p-test.true) _ _ (c.cell-g.ensures.0 _ (in_q _ _ _ _ _ c.loop-p.invariant.0 c.loop-p-test.true (c.cell-q.ensures.0 _ c.loop-p-test.true))) c.put.ensures, search rules, search rules, after c.loop-p.invariant.3 c.put.ensures.only)

pub returns : goal.returns
returns c = (c.loop-p.invariant.0, c.loop-p.invariant.3)
