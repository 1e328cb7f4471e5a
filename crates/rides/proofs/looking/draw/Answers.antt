use Rattle.std.proofs.lemmas.Option.{IfSome_then}
use Rattle.rides.proofs.Rides.{drawn-first, drawn-none}
use native.Mathlib.Omega.{arith}
use borrow.Author.Rules.{rules}
use Rattle.rides.proofs.looking.draw.Goals as goal

pub returns-then-due : goal.returns-then-due
returns-then-due c = record { drawn = IfSome_then c.write_first.result c.write_first.ensures.first (λ n y. (y.0, λ f g a h. drawn-first _ _ _ c.args.due (search rules) y.0 (omega arith) (y.1 f g a h))); held = c.write_first.ensures.held }

pub returns : goal.returns
returns c = record { drawn = (omega arith, λ f g a h. drawn-none f c.args.out.now 0 c.args.due (search rules)); held = λ g a h. h }
