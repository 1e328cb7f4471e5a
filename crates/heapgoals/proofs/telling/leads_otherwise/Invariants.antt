use Rattle.heapgoals.proofs.Leads.{Leading}
use Rattle.heapgoals.proofs.telling.leads_otherwise.Given as goal

abbrev pub invariant-loop-v : goal.invariant-loop-v
invariant-loop-v l = Leading l.heap l.cells l.«at» l.p l.v-index
