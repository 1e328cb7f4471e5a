use native.Mathlib.Omega.{arith}
use Prim.Native.Nat.{◌-◌}
use lib.ListN.{length-set}
use Rattle.nametable.specs.Table.{word}
use Rattle.stages.proofs.Kept.{kept-known, kept_new, kept_more}
use Rattle.stages.proofs.variables.keep.Goals as goal

pub returns-then-v-n : goal.returns-then-v-n
returns-then-v-n c = λ text names h e l. rw (kept-known text c.args.vars.now names (word text c.args.at c.args.len) c.args.n c.args.v h e c.if-v-n.true) h

pub bounds-vars-n-2 : goal.bounds-vars-n-2
bounds-vars-n-2 c = omega (arith, length-set c.args.vars.now c.args.n c.args.at, c.if-v-n.false, c.requires.1, c.requires.6)

pub returns : goal.returns
returns c = λ text names h e l. rw (kept_new text c.args.vars.now names (word text c.args.at c.args.len) c.args.n c.args.v h e (λ k. omega (arith, k, c.if-v-n.false))) (kept_more c.args.vars.now c.args.n c.args.at c.args.len (c.args.len - 1) (omega (arith, c.if-v-n.false, c.requires.1)) c.requires.6 (omega (arith, c.requires.4)) text names h l)
