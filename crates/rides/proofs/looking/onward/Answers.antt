use mathlib.Core.Path.{◌≡◌, ap}
use Rattle.detector.specs.declared.Detector.{Detector}
use Rattle.rides.specs.declared.looking.Along.{Along}
use Rattle.rides.proofs.looking.onward.Goals as goal

pub returns : goal.returns
returns c = let z : ◌≡◌ {A = Along} (record { detector = c.next-detector.result; kept = c.args.kept; budget = c.args.budget }) _ = ap (λ (d : Detector). record { detector = d; kept = c.args.kept; budget = c.args.budget }) c.next-detector.ensures in z
