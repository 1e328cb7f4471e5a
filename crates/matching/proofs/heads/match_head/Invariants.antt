use mathlib.Core.Path.{◌≡◌}
use lib.ListN.{length}
use Rattle.matching.specs.Heads.{Matching}
use Rattle.matching.proofs.heads.match_head.Given as goal

abbrev pub invariant-loop : goal.invariant-loop
invariant-loop l = Matching l.heap l.t.base l.initial.cells l.p l.q l.cells l.stack l.x × (length l.stack ≡ length l.initial.stack)
