use borrow.Author.Rules.{rules}
use Rattle.areas.proofs.Puts.{writable-in, written-within}
use Rattle.areas.proofs.put_goal.Goals as goal

pub write_goal-requires : goal.write_goal-requires
write_goal-requires c = let h = c.requires.by_index in record { writable = (h.1, writable-in h.2); in_bounds = search rules }

pub returns : goal.returns
returns c = let h = c.requires.by_index in record { written = λ n g q. c.write_goal.ensures g (writable-in q); within = written-within h.2 (c.write_goal.ensures h.1 (writable-in h.2)) }
