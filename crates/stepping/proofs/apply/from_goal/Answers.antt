use Prim.Native.Nat.{ℕ}
use native.Mathlib.Omega.{arith}
use lib.ListN.{length-replicate}
use Rattle.picker.proofs.Picks.{some-formula}
use Rattle.stepping.proofs.Steps.{gives-empty, gives-absent, gives-formula}
use Rattle.stepping.proofs.apply.from_goal.Goals as goal

pub returns-then-call-eq0 : goal.returns-then-call-eq0
returns-then-call-eq0 c = gives-empty c.args.call.clause c.if-call-eq0.true _ c.no_step.ensures

pub clauses-requires : goal.clauses-requires
clauses-requires c = omega (arith, c.requires.1.1.long)

pub returns-then-clauses-call : goal.returns-then-clauses-call
returns-then-clauses-call c = gives-absent c.args.call.clause c.if-call-eq0.false (λ P b. omega (arith, c.if-clauses-call.true, c.clauses.ensures _ b.long)) _ c.no_step-then-clauses-call.ensures

pub from_formula-requires : goal.from_formula-requires
from_formula-requires c = let p = c.requires in record { in_bounds = (p.0, (p.1.0, p.1.1, omega (arith, c.if-clauses-call.false, c.clauses.ensures _ p.1.1.long)), some-formula c.if-call-eq0.false p.2) }

pub returns : goal.returns
returns c = gives-formula c.args.call.clause c.if-call-eq0.false _ c.from_formula.ensures
