use native.Mathlib.Omega.{arith}
use Rattle.attempts.proofs.Laying.{row_kept, lent-set-up, lent-tested}
use borrow.Author.Rules.{rules}
use Rattle.attempts.proofs.try_clause.Goals as goal

pub append-r-requires : goal.append-r-requires
append-r-requires c = (search rules, search rules, search rules, λ x l. (c.requires.by_index.1.2.fit x l).valid)

pub try_rows-requires : goal.try_rows-requires
try_rows-requires c = (lent-set-up c.requires.by_index.0.3 c.args.clause.now c.args.head c.requires.by_index.1.1 c.requires.by_index.1.0 c.requires.by_index.1.2 c.requires.words_len_bound.2 (omega (arith, c.requires.words_len_bound.0, c.requires.words_len_bound.1, c.requires.by_index.1.2.size)) c.append-r.new.dst c.append-r.result c.append-r.ensures, c.requires.by_index.0.3.levels_long, c.requires.words_len_bound.3)

pub returns : goal.returns
returns c = record { words = row_kept c.requires.by_index.0.3 c.args.clause.now c.args.head c.requires.by_index.1.1 c.requires.by_index.1.0 c.requires.by_index.1.2 c.requires.words_len_bound.2 (omega (arith, c.requires.words_len_bound.0, c.requires.words_len_bound.1, c.requires.by_index.1.2.size)) c.append-r.new.dst c.append-r.result c.append-r.ensures; levels = c.try_rows.ensures.levels; tested = λ f g a d n h q. lent-tested h c.args.clause.now c.args.head n d q c.requires.words_len_bound.2 (omega (arith, c.requires.words_len_bound.0, c.requires.words_len_bound.1, c.requires.by_index.1.2.size)) c.append-r.new.dst c.append-r.result c.append-r.ensures c.try_rows.new.cells c.try_rows.new.rows c.try_rows.result c.try_rows.ensures.attempted }
