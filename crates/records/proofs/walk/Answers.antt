use Rattle.records.proofs.Turns.{says, turns, turn-next}
use Rattle.records.proofs.Passed.{counted-there, further, going-passed}
use Rattle.records.proofs.walk.Goals as goal

pub returns-in-Err-clause-answer : goal.returns-in-Err-clause-answer
returns-in-Err-clause-answer c = says (search turns)

pub past_record-past-requires : goal.past_record-past-requires
past_record-past-requires c = search turns

pub meet-requires-clause-at_in_bounds : goal.meet-requires-clause-at_in_bounds
meet-requires-clause-at_in_bounds c = search turns

pub meet-requires-clause-at_value : goal.meet-requires-clause-at_value
meet-requires-clause-at_value c = search turns

pub pass_nodes-y-requires : goal.pass_nodes-y-requires
pass_nodes-y-requires c =
    let there = turn-next _ _ _ _ _ _ _ _ _ _ c.loop-at.invariant c.loop-at-test.true c.judge.ensures c.in-Ok.is c.past_record-past.ensures c.in_ok-meet-in-Ok.ensures.met in
    counted-there there c.opened.ensures c.requires

pub loop-at-smaller : goal.loop-at-smaller
loop-at-smaller c =
    let there = turn-next _ _ _ _ _ _ _ _ _ _ c.loop-at.invariant c.loop-at-test.true c.judge.ensures c.in-Ok.is c.past_record-past.ensures c.in_ok-meet-in-Ok.ensures.met in
    further there c.opened.ensures c.requires c.pass_nodes-y.ensures c.past_record-past.ensures c.loop-at-test.true

pub loop-at-preserved : goal.loop-at-preserved
loop-at-preserved c =
    let there = turn-next _ _ _ _ _ _ _ _ _ _ c.loop-at.invariant c.loop-at-test.true c.judge.ensures c.in-Ok.is c.past_record-past.ensures c.in_ok-meet-in-Ok.ensures.met in
    going-passed there c.opened.ensures c.pass_nodes-y.ensures c.resumed-state.ensures

pub returns-clause-answer : goal.returns-clause-answer
returns-clause-answer c = says (search turns)

pub returns-clause-met : goal.returns-clause-met
returns-clause-met c z = search turns
