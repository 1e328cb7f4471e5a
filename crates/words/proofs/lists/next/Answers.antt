use native.Mathlib.Omega.{arith}
use lib.ListN.{length}
use borrow.Author.Rules.{rules}
use Rattle.words.proofs.lists.next.Goals as goal

pub entry-requires : goal.entry-requires
entry-requires c = (search rules, omega (arith, c.requires.3, c.requires.2.held.few), omega (arith, c.requires.3, c.requires.2.long))

pub returns : goal.returns
returns c = λ book P o l. rw (c.entry.ensures.0 (length P) l) (o.linked.more c.args.i (omega arith) l)
