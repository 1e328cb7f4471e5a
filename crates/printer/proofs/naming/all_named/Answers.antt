use Rattle.printer.proofs.Walks.{sweeping, sweeping-said}
use Rattle.printer.proofs.naming.all_named.Goals as goal

pub record_at-item-requires : goal.record_at-item-requires
record_at-item-requires c = search sweeping

pub returns-then-not-is_named : goal.returns-then-not-is_named
returns-then-not-is_named c = λ l h. search sweeping-said

pub next_at-i-requires : goal.next_at-i-requires
next_at-i-requires c = search sweeping

pub loop-i-preserved : goal.loop-i-preserved
loop-i-preserved c = search sweeping

pub returns : goal.returns
returns c = λ l h. search sweeping-said
