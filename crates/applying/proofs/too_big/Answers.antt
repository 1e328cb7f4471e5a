use mathlib.Core.Path.{refl}
use Rattle.applying.proofs.too_big.Goals as goal

pub returns : goal.returns
returns c = refl
