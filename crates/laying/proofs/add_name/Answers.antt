use Rattle.laying.proofs.Adding.{name-sum, name-opens, name-deep, name_open}
use native.Mathlib.Omega.{arith}
use Rattle.laying.proofs.Adding.{names-added}
use Rattle.laying.proofs.add_name.Goals as goal

pub number_of_name-n-requires : goal.number_of_name-n-requires
number_of_name-n-requires c = search names-added

pub lay-requires : goal.lay-requires
lay-requires c = search names-added

pub rooted-e-requires : goal.rooted-e-requires
rooted-e-requires c = search names-added

pub overflow_add-d : goal.overflow_add-d
overflow_add-d c = omega (arith, name-sum _ _ _ _ _ _ _ _ _ c.requires)

pub push-requires : goal.push-requires
push-requires c = (name-deep _ _ _ _ _ _ _ _ _ _ c.opens_at-bracket.ensures _ c.kind_of-kind.ensures _ c.number_of_name-n.ensures _ _ _ c.lay.ensures _ c.rooted-e.ensures c.requires, name-opens _ _ _ _ _ _ _ _ _ c.requires, name-sum _ _ _ _ _ _ _ _ _ c.requires)

pub returns-then-bracket : goal.returns-then-bracket
returns-then-bracket c = name_open _ _ _ _ _ _ _ _ _ _ c.opens_at-bracket.ensures _ c.kind_of-kind.ensures _ c.number_of_name-n.ensures _ _ _ c.lay.ensures c.if-bracket.true _ c.rooted-e.ensures _ _ c.push.ensures.0 c.push.ensures.1

pub returns : goal.returns
returns c = search names-added
