use native.Mathlib.Omega.{arith}
use lib.ListN.{length-set}
use Rattle.laying.proofs.owned.put_word.Goals as goal

pub bounds-table-i-2 : goal.bounds-table-i-2
bounds-table-i-2 c = omega (arith, length-set c.args.table.now c.args.i c.args.at)
