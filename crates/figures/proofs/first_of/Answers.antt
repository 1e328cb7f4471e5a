use native.Mathlib.Omega.{arith}
use mathlib.Core.Path.{ap}
use lib.ListN.{length}
use Rattle.heap.specs.HeapLaws.{rows_inside}
use Rattle.figures.specs.FigureLaws.{leads-alone, first-row-is, first-whole, head_few}
use Rattle.figures.proofs.first_of.Goals as goal

pub returns-then-bodies-eq1 : goal.returns-then-bodies-eq1
returns-then-bodies-eq1 c = let few = head_few c.args.clause.now c.args.head c.args.bodies c.requires.0 c.requires.1 in (leads-alone c.args.clause.now c.args.head c.args.bodies c.if-bodies-eq1.true, omega (arith, few.0, c.requires.1.size), omega (arith, few.1))

pub past-requires : goal.past-requires
past-requires c = (λ x l. (c.requires.1.fit x l).valid, first-whole c.args.clause.now c.args.head c.args.bodies c.requires.0 c.requires.1 c.if-bodies-eq0.false, omega (arith, c.requires.1.size))

pub returns : goal.returns
returns c = let few = head_few c.args.clause.now c.args.head c.args.bodies c.requires.0 c.requires.1 in let inside = rows_inside c.args.clause.now 1 c.args.head few.1 in (λ d q. omega (arith, c.past.ensures, ap length (first-row-is c.args.clause.now c.args.head c.args.bodies d q c.if-bodies-eq0.false)), omega (arith, c.past.ensures, few.0, inside, c.requires.1.size), omega (arith, c.past.ensures, inside))
