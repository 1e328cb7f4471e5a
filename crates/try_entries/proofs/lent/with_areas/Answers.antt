use Rattle.try_entries.proofs.Items.{book-within}
use Rattle.try_entries.proofs.lent.with_areas.Goals as goal

pub returns : goal.returns
returns g c = book-within _ c.requires _ _ c.at-2.ensures c.apart.ensures
