use native.Mathlib.Omega.{arith}
use lib.ListN.{length-set}
use Rattle.words.proofs.linking.prepend.Goals as goal

pub bounds-shelf-h-2 : goal.bounds-shelf-h-2
bounds-shelf-h-2 c = simp length-set (omega (arith, c.requires))
