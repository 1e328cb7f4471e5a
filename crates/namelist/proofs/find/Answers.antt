use Rattle.namelist.proofs.Finding.{finding, finding_hit, finding-end}
use Rattle.namelist.proofs.find.Goals as goal

pub loop-at-init : goal.loop-at-init
loop-at-init c = search finding

pub is_entry-requires : goal.is_entry-requires
is_entry-requires c = search finding

pub name_at-requires : goal.name_at-requires
name_at-requires c = record { at_in_bounds = search finding; at_in_bounds_2 = search finding }

pub returns-then-is_entry : goal.returns-then-is_entry
returns-then-is_entry c = finding_hit _ _ _ _ _ c.name_at.result c.loop-at.invariant c.loop-at-test.true c.is_entry.ensures c.if-is_entry.true c.name_at.ensures _ c.kind-kind.ensures

pub past-at-requires : goal.past-at-requires
past-at-requires c = record { at_in_bounds = search finding; at_in_bounds_2 = search finding }

pub loop-at-preserved : goal.loop-at-preserved
loop-at-preserved c = search finding

pub returns : goal.returns
returns c = finding-end _ _ _ _ c.loop-at.invariant c.loop-at-test.false _ c.kind-kind.ensures
