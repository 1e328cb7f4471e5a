use native.Mathlib.Omega.{arith}
use lib.ListN.{take, drop}
use Rattle.heapgoals.proofs.Shows.{alone, part-long, part-fore, laid-written}
use Rattle.heapgoals.proofs.writing.put.Goals as goal

pub write-requires : goal.write-requires
write-requires c = record { made = (c.requires.made.0, alone (take 514 (drop 514 c.args.levels.now)) c.args.w c.requires.made.1 c.requires.made.2, c.requires.made.2); by_index = c.requires.by_index; cells_len_bound = (omega (arith, c.requires.cells_len.0), part-long c.args.levels.now c.requires.cells_len.1); count_le_at = (c.requires.count_le_at.0, c.requires.count_le_at.1, c.requires.count_le_at.2, c.requires.count_le_at.3, omega (arith, c.requires.count_le_at.3)) }

pub returns : goal.returns
returns c = record { laid = laid-written c.write.ensures.written; fore = part-fore c.args.levels.now c.write.new.levels c.requires.cells_len.1 c.write.auto.levels; spare = c.write.ensures.spare }
