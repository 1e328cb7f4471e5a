use borrow.Author.Rules.{rules}
use Prim.Native.Nat.{◌≤◌}
use native.Mathlib.Omega.{arith}
use mathlib.Core.Path.{refl, ◌∙◌}
use Rattle.heapgoals.specs.HoldLaws.{fore-after}
use Rattle.heapgoals.proofs.Shows.{no_names, laid-named}
use Rattle.heapgoals.proofs.Outs.{row_out}
use Rattle.heapgoals.proofs.writing.write_rows.Goals as goal

pub write_goal-goal-requires : goal.write_goal-goal-requires
write_goal-goal-requires c = record { placed = c.requires.placed }

pub returns-then-goal-gt4096 : goal.returns-then-goal-gt4096
returns-then-goal-gt4096 c = record { row = tt; fore = c.write_goal-goal.ensures.fore; spare = c.write_goal-goal.ensures.spare }

pub put-all-requires : goal.put-all-requires
put-all-requires c = let l : c.write_goal-goal.result.at ≤ 4096 = omega (arith, c.if-goal-gt4096.false) in record { made = (c.requires.placed.made, c.requires.placed.behind, refl); by_index = laid-named c.write_goal-goal.ensures.laid l c.requires.placed.solved (_, no_names _ _); cells_len = (c.requires.placed.cells_long, c.write_goal-goal.ensures.fore.long ∙ c.requires.placed.levels_long); count_le_at = (c.write_goal-goal.ensures.laid.few l, omega (arith, l), omega (arith, l), omega (arith, l)) }

pub returns-then-end-all : goal.returns-then-end-all
returns-then-end-all c = record { row = tt; fore = fore-after c.write_goal-goal.ensures.fore c.put-all.ensures.fore; spare = c.put-all.ensures.spare ∙ c.write_goal-goal.ensures.spare }

pub overflow_sub-result : goal.overflow_sub-result
overflow_sub-result c = omega (arith, (c.put-all.ensures.laid.fits (omega (arith, c.if-end-all.false)) c.requires.placed.solved.0 c.requires.placed.solved.1).at)

pub returns : goal.returns
returns c = record { row = λ words goal answer h e. row_out h e c.write_goal-goal.ensures.laid (omega (arith, c.if-goal-gt4096.false)) refl c.put-all.ensures.laid (omega (arith, c.if-end-all.false)) (search rules); fore = fore-after c.write_goal-goal.ensures.fore c.put-all.ensures.fore; spare = c.put-all.ensures.spare ∙ c.write_goal-goal.ensures.spare }
