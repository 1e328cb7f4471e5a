use mathlib.Core.Path.{refl}
use lib.ListN.{length-set}
use Rattle.listing.proofs.Filled.{copying}
use Rattle.listing.proofs.put_bytes.Goals as goal

pub loop-i-init : goal.loop-i-init
loop-i-init c = (search copying, refl)

pub loop-i-preserved : goal.loop-i-preserved
loop-i-preserved c = (search copying, simp length-set c.loop-i.invariant.1)

pub returns : goal.returns
returns c = search copying
