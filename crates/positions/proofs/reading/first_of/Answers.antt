use native.Mathlib.Omega.{arith}
use mathlib.Core.Path.{sym}
use lib.ListN.{get_or-eq_default}
use Rattle.words.specs.Columns.{column, column-length, ROWS, FIRST}
use Rattle.positions.proofs.reading.first_of.Goals as goal

pub returns-then-v-lt-ROWS : goal.returns-then-v-lt-ROWS
returns-then-v-lt-ROWS c = c.cell.ensures.0 _ c.if-v-lt-ROWS.true

pub returns : goal.returns
returns c = sym (get_or-eq_default (column FIRST ROWS c.args.rows.now) 0 (omega (arith, column-length FIRST ROWS c.args.rows.now)))
