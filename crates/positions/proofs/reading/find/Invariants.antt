use Prim.Native.Nat.{◌<◌}
use mathlib.Core.Path.{◌≡◌}
use lib.ListN.{get_or}
use Rattle.words.specs.Columns.{column, UP}
use Rattle.positions.specs.Classes.{root}
use Rattle.positions.proofs.reading.find.Given as goal

abbrev pub invariant-loop-q : goal.invariant-loop-q
invariant-loop-q l = (l.p < l.n) × (l.q ≡ get_or (column UP l.n l.rows) l.p 0) × (root (column UP l.n l.rows) l.p ≡ root (column UP l.n l.rows) l.start)

abbrev pub decreases-loop-q : goal.decreases-loop-q
decreases-loop-q l = l.p
