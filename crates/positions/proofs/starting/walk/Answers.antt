use Prim.Native.Nat.{◌<◌}
use native.Mathlib.Omega.{arith}
use native.Mathlib.Numerals.{add-one}
use mathlib.Core.Path.{◌≡◌, ap, ◌∙◌}
use lib.ListN.{get_or}
use Rattle.words.specs.Columns.{column, END}
use Rattle.positions.specs.Words.{walk_of}
use borrow.Author.Rules.{rules}
use Rattle.positions.proofs.starting.walk.Goals as goal

pub cell-c-requires : goal.cell-c-requires
cell-c-requires c = let h : c.loop-i.c < c.args.n = rw c.loop-i.invariant.1 (c.requires.1 c.loop-i.i c.loop-i-test.true) in (search rules, omega arith)

pub loop-i-preserved : goal.loop-i-preserved
loop-i-preserved c = (search rules, rw add-one (c.cell-c.ensures.0 c.args.n (rw c.loop-i.invariant.1 (c.requires.1 c.loop-i.i c.loop-i-test.true)) ∙ ap (λ x. get_or (column END c.args.n c.args.rows.now) x 0) c.loop-i.invariant.1))

pub returns : goal.returns
returns c = c.loop-i.invariant.1 ∙ ap (λ x. walk_of (column END c.args.n c.args.rows.now) x c.args.from) (let e : c.loop-i.i ≡ c.args.k = omega arith in e)
