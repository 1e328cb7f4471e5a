use mathlib.Core.Path.{refl}
use Rattle.trying.proofs.stepping.shape_of.Goals as goal

pub returns : goal.returns
returns c = ((λ f g a p e d. record { row = p; long = refl; first = d; answers = e }), refl)
