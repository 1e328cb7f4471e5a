use Prim.Native.Nat.{ℕ, ◌<◌, ◌≤◌}
use native.Mathlib.Omega.{arith}
use mathlib.Core.Path.{◌≡◌, refl, sym, ap, ◌∙◌}
use mathlib.Core.List.{List}
use lib.ListN.{get_or}
use Rattle.words.specs.Columns.{column, column-length, Put, same, after, UP}
use Rattle.positions.specs.Classes.{root}
use Rattle.positions.specs.Steps.{Flat}
use Rattle.positions.specs.RootLaws.{root_self, root-step}
use Rattle.joining.proofs.Flats.{flat_refl, flat_trans, halved}
use borrow.Author.Rules.{rules}
use Rattle.joining.proofs.seek.Goals as goal

module _ (n : ℕ) (rows₀ rows : List ℕ) (p q g : ℕ) (flat : Flat (column UP n rows₀) (column UP n rows)) (inn : p < n) (eq : q ≡ get_or (column UP n rows) p 0) (low : q < p) (eg : g ≡ get_or (column UP n rows) q 0) where
  eg' : g ≡ get_or (column UP n rows) (get_or (column UP n rows) p 0) 0
  eg' = eg ∙ ap (λ i. get_or (column UP n rows) i 0) eq

  small : g ≤ q
  small = rw eg (flat.down q)

  flatter : (z : List ℕ) → Put UP p g rows z → Flat (column UP n rows₀) (column UP n z)
  flatter z s = flat_trans (column UP n rows₀) (column UP n rows) (column UP n z) flat
      (rw (s.here n) (rw eg' (halved (column UP n rows) flat.down p (omega (arith, column-length UP n rows)) (omega arith))))

  onward : root (column UP n rows₀) g ≡ root (column UP n rows₀) p
  onward =
      sym (flat.same g) ∙ ap (root (column UP n rows)) eg' ∙ sym (root-step (column UP n rows) flat.down (get_or (column UP n rows) p 0)) ∙ sym (root-step (column UP n rows) flat.down p) ∙ flat.same p

pub loop-q-init : goal.loop-q-init
loop-q-init c = (flat_refl _ c.requires.2, c.requires.1, c.cell-q.ensures.0 _ c.requires.1, refl, search rules, same)

pub cell-q-requires-in-loop-q : goal.cell-q-requires-in-loop-q
cell-q-requires-in-loop-q c = (search rules, omega (arith, small _ _ _ _ _ _ c.loop-q.invariant.0 c.loop-q.invariant.1 c.loop-q.invariant.2 c.loop-q-test.true (c.cell-g.ensures.0 c.args.n (omega arith))))

pub loop-q-smaller : goal.loop-q-smaller
loop-q-smaller c = omega (arith, small _ _ _ _ _ _ c.loop-q.invariant.0 c.loop-q.invariant.1 c.loop-q.invariant.2 c.loop-q-test.true (c.cell-g.ensures.0 c.args.n (omega arith)))

pub loop-q-preserved : goal.loop-q-preserved
loop-q-preserved c = let i = c.loop-q.invariant in let h : c.loop-q.q < c.args.n = omega arith in let e = c.cell-g.ensures.0 _ h in let s = small _ _ _ _ _ _ i.0 i.1 i.2 c.loop-q-test.true e in let l : c.cell-g.result < c.args.n = omega arith in (flatter _ _ _ _ _ _ i.0 i.1 i.2 c.loop-q-test.true e _ c.put.ensures, l, c.cell-q-in-loop-q.ensures.0 _ l, onward _ _ _ _ _ _ i.0 i.1 i.2 c.loop-q-test.true e ∙ i.3, search rules, after i.5 c.put.ensures.only)

pub returns : goal.returns
returns c = let i = c.loop-q.invariant in (sym (root_self _ i.0.down c.loop-q.p (omega (arith, i.2, i.0.down c.loop-q.p, c.loop-q-test.false))) ∙ i.0.same c.loop-q.p ∙ i.3, i.0, i.5)
