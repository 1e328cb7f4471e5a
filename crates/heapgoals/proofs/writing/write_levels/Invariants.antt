use mathlib.Core.Path.{◌≡◌}
use lib.ListN.{length}
use Rattle.numbering.specs.Naming.{spare}
use Rattle.heapgoals.specs.HoldLaws.{Fore}
use Rattle.heapgoals.proofs.Shows.{Lowered}
use Rattle.heapgoals.proofs.writing.write_levels.Given as goal

abbrev pub invariant-loop-n : goal.invariant-loop-n
invariant-loop-n l = Lowered l.heap l.cells l.initial.levels l.initial.rows l.initial.out l.initial.pen l.depth l.rows l.out l.pen l.n × Fore l.initial.levels l.levels × (spare l.rows ≡ spare l.initial.rows)
