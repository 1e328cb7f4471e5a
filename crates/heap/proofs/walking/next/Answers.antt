use Prim.Native.Nat.{◌+◌, ◌-◌}
use Rattle.heap.specs.WalkLaws.{walk_inside, walk-few, visit_symbol, visit_leaf, visit_within}
use native.Mathlib.Omega.{arith}
use mathlib.Core.Path.{refl}
use borrow.Author.Rules.{rules}
use Rattle.heap.proofs.walking.next.Goals as goal

pub word-u-requires : goal.word-u-requires
word-u-requires c = walk_inside c.requires.made.0 c.requires.made.1 c.requires.due_nonzero.0

pub overflow_add-due : goal.overflow_add-due
overflow_add-due c = omega (arith, walk-few c.requires.made.0 c.requires.made.1 c.requires.due_nonzero.0, c.requires.made.0.short, c.arity.ensures.1)

pub returns-then-u-ge-SYMBOL : goal.returns-then-u-ge-SYMBOL
returns-then-u-ge-SYMBOL c = visit_symbol c.requires.made.0 c.requires.made.1 c.requires.due_nonzero.0 c.word-u.ensures c.if-u-ge-SYMBOL.true c.arity.ensures.0 {x = c.args.w.at + 1} {y = c.args.w.due - 1 + c.arity.result} c.settled-walk.ensures (omega arith) (omega arith)

pub follow-q-requires : goal.follow-q-requires
follow-q-requires c = (c.requires.made.0, walk_inside c.requires.made.0 c.requires.made.1 c.requires.due_nonzero.0)

pub overflow_add-p-then-k-eq0 : goal.overflow_add-p-then-k-eq0
overflow_add-p-then-k-eq0 c = omega (arith, walk_inside c.requires.made.0 c.requires.made.1 c.requires.due_nonzero.0, c.requires.made.0.short)

pub returns-then-k-eq0 : goal.returns-then-k-eq0
returns-then-k-eq0 c = visit_leaf c.requires.made.0 c.requires.made.1 c.requires.due_nonzero.0 c.word-u.ensures c.if-u-ge-SYMBOL.false c.follow-q.ensures c.word-x.ensures c.arity-k.ensures.0 c.if-k-eq0.true {a = c.args.w.at + 1} {b = c.args.w.due - 1} c.settled-walk-then-k-eq0.ensures (omega arith) refl

pub within-walk-requires : goal.within-walk-requires
within-walk-requires c = (search rules, search rules, omega (arith, walk-few c.requires.made.0 c.requires.made.1 c.requires.due_nonzero.0, c.requires.made.0.short), omega (arith, walk_inside c.requires.made.0 c.requires.made.1 c.requires.due_nonzero.0, c.requires.made.0.short), search rules)

pub returns : goal.returns
returns c = visit_within c.requires.made.0 c.requires.made.1 c.requires.due_nonzero.0 c.word-u.ensures c.if-u-ge-SYMBOL.false c.follow-q.ensures c.word-x.ensures c.arity-k.ensures.0 c.if-k-eq0.false c.requires.due_nonzero.2 {a = c.follow-q.result + 1} c.within-walk.ensures.levels c.within-walk.ensures.walk (omega arith)
