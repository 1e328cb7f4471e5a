use Rattle.laying.proofs.Seeking.{finding, finding-said}
use borrow.Author.Rules.{rules}
use Rattle.laying.proofs.owned.find.Goals as goal

pub loop-i-init : goal.loop-i-init
loop-i-init c = (search finding, search rules, search rules, search rules)

pub is_word-requires : goal.is_word-requires
is_word-requires c = (search rules, search rules, search finding)

pub returns-then-is_word : goal.returns-then-is_word
returns-then-is_word c = (λ names h. search finding-said, search rules)

pub loop-i-preserved : goal.loop-i-preserved
loop-i-preserved c = (search finding, search rules, search rules, search rules)

pub returns : goal.returns
returns c = (λ names h. search finding-said, search rules)
