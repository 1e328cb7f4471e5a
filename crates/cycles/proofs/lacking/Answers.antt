use Rattle.std.proofs.Common.{Some}
use Prim.Native.Nat.{ℕ, ◌<◌}
use native.Mathlib.Omega.{arith}
use mathlib.Core.Path.{◌≡◌, sym, ap, ◌∙◌}
use mathlib.Core.List.{List}
use lib.ListN.{length, get_or}
use borrow.Author.Count.{below_more}
use Rattle.words.specs.Word.{arity_of}
use Rattle.positions.specs.Words.{child}
use Rattle.positions.specs.Classes.{root}
use Rattle.positions.specs.Ranking.{under}
use Rattle.positions.specs.Diving.{Searched, Opened}
use Rattle.positions.specs.Tables.{ends, ups, ranks}
use Rattle.positions.specs.RootLaws.{root_le}
use Rattle.positions.specs.TrialLaws.{next-argument}
use borrow.Author.Rules.{rules}
use Rattle.cycles.proofs.lacking.Goals as goal

module _ (w e up rank : List ℕ) (x k c i : ℕ) (se : Searched w e up rank) (hx : x < length w) (ek : k ≡ arity_of (get_or w x 0)) (ec : c ≡ child e x i) (l : i < k) where
  in_c : c < length w
  in_c = rw ec ((se.ends x hx).inside i (omega arith))

  module _ (r : ℕ) (er : r ≡ root up c) where
    in_r : r < length w
    in_r = omega (arith, root_le up se.down c, in_c, er)

    is : (z : ℕ) → z ≡ get_or rank r 0 → z ≡ under e up rank x i
    is z ez = ez ∙ ap (λ t. get_or rank t 0) (er ∙ ap (root up) ec)

    found : (z : ℕ) → z ≡ get_or rank r 0 → z ≡ 0 → Opened w e up rank x (Some r)
    found z ez h = record { known = (in_r, (i, omega arith, er ∙ ap (root up) ec, sym ez ∙ h)) }

pub loop-i-init : goal.loop-i-init
loop-i-init c = (search rules, c.arity-k.ensures.0 ∙ ap arity_of c.word.ensures, search rules, λ j h. absurd (omega arith))

pub find-r-requires : goal.find-r-requires
find-r-requires c = (c.requires.0, in_c _ _ _ _ _ _ _ _ c.requires.1 c.requires.2 c.loop-i.invariant.1 c.loop-i.invariant.2 c.loop-i-test.true, c.requires.1.down)

pub cell-z-requires : goal.cell-z-requires
cell-z-requires c = (search rules, omega (arith, c.requires.0, in_r _ _ _ _ _ _ _ _ c.requires.1 c.requires.2 c.loop-i.invariant.1 c.loop-i.invariant.2 c.loop-i-test.true _ c.find-r.ensures))

pub returns-then-z-eq0 : goal.returns-then-z-eq0
returns-then-z-eq0 c = found _ _ _ _ _ _ _ _ c.requires.1 c.requires.2 c.loop-i.invariant.1 c.loop-i.invariant.2 c.loop-i-test.true _ c.find-r.ensures _ (c.cell-z.ensures.0 _ (in_r _ _ _ _ _ _ _ _ c.requires.1 c.requires.2 c.loop-i.invariant.1 c.loop-i.invariant.2 c.loop-i-test.true _ c.find-r.ensures)) c.if-z-eq0.true

pub cell-c-requires : goal.cell-c-requires
cell-c-requires c = (search rules, omega (arith, c.requires.0, in_c _ _ _ _ _ _ _ _ c.requires.1 c.requires.2 c.loop-i.invariant.1 c.loop-i.invariant.2 c.loop-i-test.true))

pub loop-i-preserved : goal.loop-i-preserved
loop-i-preserved c = let a = c.args in let w = a.words.now in let e = ends w a.rows.now in let hc = in_c _ _ _ _ _ _ _ _ c.requires.1 c.requires.2 c.loop-i.invariant.1 c.loop-i.invariant.2 c.loop-i-test.true in let hr = in_r _ _ _ _ _ _ _ _ c.requires.1 c.requires.2 c.loop-i.invariant.1 c.loop-i.invariant.2 c.loop-i-test.true _ c.find-r.ensures in (omega (arith, c.loop-i-test.true), c.loop-i.invariant.1, next-argument e a.x c.loop-i.i _ _ c.loop-i.invariant.2 (c.cell-c.ensures.0 _ hc), below_more (λ j. 0 < under e (ups w a.rows.now) (ranks w a.rows.now) a.x j) c.loop-i.i c.loop-i.invariant.3 (let z = is _ _ _ _ _ _ _ _ c.requires.1 c.requires.2 c.loop-i.invariant.1 c.loop-i.invariant.2 c.loop-i-test.true _ c.find-r.ensures _ (c.cell-z.ensures.0 _ hr) in omega (arith, z, c.if-z-eq0.false)))

pub returns : goal.returns
returns c = record { known = λ i h. c.loop-i.invariant.3 i (omega (arith, h, c.loop-i.invariant.1, c.loop-i-test.false)) }
