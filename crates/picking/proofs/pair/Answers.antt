use Rattle.picking.proofs.Appends.{paired}
use Rattle.picking.proofs.pair.Goals as goal

pub returns : goal.returns
returns c = paired _ _ _ _ _ _ _ c.append-a.ensures c.append.ensures
