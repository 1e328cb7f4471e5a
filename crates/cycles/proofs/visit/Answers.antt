use Rattle.std.proofs.Common.{Some}
use Prim.Native.Nat.{ℕ, ◌<◌}
use native.Mathlib.Omega.{arith}
use mathlib.Core.Path.{◌≡◌, sym, ◌∙◌}
use mathlib.Core.List.{List}
use lib.ListN.{get_or}
use Rattle.words.specs.Columns.{same}
use Rattle.positions.specs.Tables.{ups, ranks, Search, Found}
use borrow.Author.Rules.{rules}
use Rattle.cycles.proofs.visit.Goals as goal

idle : (w rows : List ℕ) (r stamp : ℕ) → Search w rows stamp → (get_or (ups w rows) r 0 ≡ r → 0 < get_or (ranks w rows) r 0) → Found w rows r (Some stamp) rows
idle w rows r stamp se h = record { known = record { dive = se.dive; kept = λ q z. z; done = h } }

pub cell-u-requires : goal.cell-u-requires
cell-u-requires c = (search rules, omega (arith, c.requires.0.grouped.small, c.requires.1))

pub cell-z-requires : goal.cell-z-requires
cell-z-requires c = (search rules, omega (arith, c.requires.0.grouped.small, c.requires.1))

pub dive-requires : goal.dive-requires
dive-requires c = (c.requires.0, c.requires.1, sym (c.cell-u.ensures.0 _ c.requires.1) ∙ c.if-u-r.true, sym (c.cell-z.ensures.0 _ c.requires.1) ∙ c.if-z-eq0.true)

pub returns-then-z-eq0 : goal.returns-then-z-eq0
returns-then-z-eq0 c = c.dive.ensures

pub returns-then-u-r : goal.returns-then-u-r
returns-then-u-r c = (idle _ _ _ _ c.requires.0 (λ y. omega (arith, c.if-z-eq0.false, c.cell-z.ensures.0 _ c.requires.1)), same)

pub returns : goal.returns
returns c = (idle _ _ _ _ c.requires.0 (λ y. absurd (c.if-u-r.false (c.cell-u.ensures.0 _ c.requires.1 ∙ y))), same)
