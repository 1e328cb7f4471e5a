use Rattle.scanning.proofs.Meetings.{scanning}
use borrow.Author.Rules.{rules}
use Rattle.scanning.proofs.find_clash.Goals as goal

pub loop-i-init : goal.loop-i-init
loop-i-init c = (search scanning, search rules)

pub record_at-item-requires : goal.record_at-item-requires
record_at-item-requires c = search scanning

pub remember-requires : goal.remember-requires
remember-requires c = (search rules, search scanning)

pub returns-then-not-remember : goal.returns-then-not-remember
returns-then-not-remember c = search scanning

pub counted-k-requires : goal.counted-k-requires
counted-k-requires c = search scanning

pub next_at-i-requires : goal.next_at-i-requires
next_at-i-requires c = search scanning

pub loop-i-preserved : goal.loop-i-preserved
loop-i-preserved c = (search scanning, search rules)

pub returns : goal.returns
returns c = search scanning
