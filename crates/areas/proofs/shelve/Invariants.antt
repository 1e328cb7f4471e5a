use Rattle.areas.specs.Rooms.{Rows}
use Rattle.areas.proofs.shelve.Given as goal

abbrev pub invariant-loop-k : goal.invariant-loop-k
invariant-loop-k l = Rows l.tables.starts l.tables.heads l.tables.bodies l.k l.shelf
