use Prim.Native.Nat.{◌≤◌}
use native.Mathlib.Omega.{arith}
use mathlib.Core.Path.{refl, ◌∙◌}
use Rattle.heapgoals.specs.HoldLaws.{fore-after, fore-levels}
use Rattle.heapgoals.proofs.Shows.{no_names, laid-over, laid-named, goal_laid}
use Rattle.heapgoals.proofs.writing.write_goal.Goals as goal

pub put-first-requires : goal.put-first-requires
put-first-requires c = record { made = (c.requires.placed.made, c.requires.placed.front, refl); by_index = (_, no_names _ _); cells_len = (c.requires.placed.cells_long, c.requires.placed.levels_long); count_le_at = (omega arith, omega arith, omega arith, omega arith) }

pub returns-then-first-gt4096 : goal.returns-then-first-gt4096
returns-then-first-gt4096 c = record { laid = laid-over c.if-first-gt4096.true; fore = c.put-first.ensures.fore; spare = c.put-first.ensures.spare }

pub write_levels-requires : goal.write_levels-requires
write_levels-requires c = let l : c.put-first.result.at ≤ 4096 = omega (arith, c.if-first-gt4096.false) in record { made = (c.requires.placed.made, c.requires.placed.solved, fore-levels c.put-first.ensures.fore c.args.heap.now c.args.s.depth c.requires.placed.deep c.requires.placed.back, c.requires.placed.deep); by_index = laid-named c.put-first.ensures.laid l c.requires.placed.solved (_, no_names _ _); cells_len = (c.requires.placed.cells_long, c.put-first.ensures.fore.long ∙ c.requires.placed.levels_long); count_le_at = (c.put-first.ensures.laid.few l, l) }

pub returns : goal.returns
returns c = record { laid = goal_laid c.args.s c.put-first.ensures.laid (omega (arith, c.if-first-gt4096.false)) c.put-first.ensures.fore c.requires.placed.deep c.write_levels.ensures.laid; fore = fore-after c.put-first.ensures.fore c.write_levels.ensures.fore; spare = c.write_levels.ensures.spare ∙ c.put-first.ensures.spare }
