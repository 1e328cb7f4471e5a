use Rattle.records.proofs.Passed.{stays, passes-below, passes-again, counted-on}
use Rattle.records.proofs.passing.pass_nodes.Goals as goal

pub returns-in_default : goal.returns-in_default
returns-in_default c = stays

pub loop-x-init : goal.loop-x-init
loop-x-init c = (λ form e f. stays, c.requires)

pub loop-x-preserved : goal.loop-x-preserved
loop-x-preserved c =
    let q = passes-below c.in-Some-pass_node.ensures.passes c.loop-x-test.true in
    (passes-again c.loop-x.invariant.0 q, counted-on (q c.args.form c.variable_limit-most.ensures c.node_limit-limit.ensures) c.loop-x.invariant.1)
