use mathlib.Core.Path.{sym as inv, ap}
use Rattle.trying.specs.Stepping.{concluded}
use Rattle.trying.proofs.stepping.concluded.Goals as goal

pub returns-in-Full : goal.returns-in-Full
returns-in-Full c = inv (ap (λ n. concluded n c.args.i c.args.formulas) c.in-Full.is)

pub returns-in-Over : goal.returns-in-Over
returns-in-Over c = inv (ap (λ n. concluded n c.args.i c.args.formulas) c.in-Over.is)

pub returns-in-Done : goal.returns-in-Done
returns-in-Done c = inv (ap (λ n. concluded n c.args.i c.args.formulas) c.in-Done.is)
