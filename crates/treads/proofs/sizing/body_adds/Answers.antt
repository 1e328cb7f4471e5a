use native.Mathlib.Omega.{arith}
use Rattle.treads.proofs.Going.{span-few, stands-body}
use Rattle.treads.proofs.Summing.{adds-thrifty, adds-counted}
use Rattle.treads.proofs.sizing.body_adds.Goals as goal

pub returns-in-Some : goal.returns-in-Some
returns-in-Some c = λ book words before rests tables count f g a d u. adds-thrifty u c.in-Some.x c.in-Some.is c.led.result c.led.ensures

pub overflow_add-s : goal.overflow_add-s
overflow_add-s c = record { fits = omega (arith, c.requires.0.10.short, span-few c.requires.0.10, c.requires.0.10.placed.begins, c.requires.0.10.placed.ends) }

pub size_of-requires : goal.size_of-requires
size_of-requires c = record { made = (c.requires.0.10.fitted.more.made, stands-body c.requires.0.10); limit_bound = (omega arith, c.requires.1) }

pub returns : goal.returns
returns c = λ book words before rests tables count f g a d u. adds-counted u c.in_ok-y.y c.in_ok-y.ensures
