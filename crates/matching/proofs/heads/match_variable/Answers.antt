use native.Mathlib.Omega.{arith}
use mathlib.Core.Path.{◌≡◌}
use Rattle.heap.specs.Heap.{bound}
use Rattle.matching.proofs.HeadLaws.{left_inside, on_variable}
use borrow.Author.Rules.{rules}
use Rattle.matching.proofs.heads.match_variable.Goals as goal

pub follow-r-requires : goal.follow-r-requires
follow-r-requires c = (c.requires.made.0, left_inside c.requires.made.0 c.args.x c.requires.due_nonzero.0 c.requires.due_nonzero.1 c.requires.due_nonzero.2)

pub returns : goal.returns
returns c =
    let free : bound c.args.cells.now c.args.v ≡ 0 = search rules in
    λ stack. on_variable c.requires.made.0 c.args.x c.requires.due_nonzero.0 c.requires.due_nonzero.1 c.requires.due_nonzero.2 c.args.t c.requires.made.1 c.requires.made.2 c.requires.made.3 c.requires.due_nonzero.3 c.requires.due_nonzero.4 (omega (arith, c.if-v-t.false)) free c.follow-r.ensures (omega (arith, c.if-t-r.false)) (omega arith) c.behind_variable.ensures
