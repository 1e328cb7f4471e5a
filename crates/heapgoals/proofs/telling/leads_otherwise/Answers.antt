use lib.ListN.{length}
use native.Mathlib.Omega.{arith}
use mathlib.Core.Path.{refl}
use Rattle.heap.specs.HeapLaws.{row_inside}
use Rattle.heapgoals.proofs.Leads.{lead-start, lead-longer, lead-other, lead-on}
use Rattle.heapgoals.proofs.telling.leads_otherwise.Goals as goal

pub loop-v-init : goal.loop-v-init
loop-v-init c = lead-start c.requires.made.1

pub follow-q-requires : goal.follow-q-requires
follow-q-requires c = (c.requires.made.0, row_inside c.args.heap.now 0 c.loop-v.p c.loop-v.invariant.whole)

pub returns-then-parted : goal.returns-then-parted
returns-then-parted c = λ e. lead-other c.loop-v.invariant c.requires.made.0 c.follow-q.ensures c.args.saved.now (length c.args.saved.now) (omega arith) c.loop-v-test.true c.word-u.ensures refl (c.parted.ensures c.if-parted.true)

pub loop-v-preserved : goal.loop-v-preserved
loop-v-preserved c = lead-on c.loop-v.invariant c.requires.made.0 c.follow-q.ensures c.word-u.ensures c.arity.ensures.0 c.if-arity-eq0.false (omega arith) (omega arith)

pub returns : goal.returns
returns c = λ e. lead-longer c.loop-v.invariant c.args.saved.now (length c.args.saved.now) (omega arith) (omega (arith, c.loop-v-test.false))
