use mathlib.Core.Path.{refl}
use Rattle.applying.proofs.both.Goals as goal

pub returns : goal.returns
returns c = refl
