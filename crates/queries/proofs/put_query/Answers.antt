use Rattle.queries.proofs.Finishing.{image-written}
use mathlib.Core.Path.{refl}
use Rattle.queries.proofs.put_query.Goals as goal

pub returns : goal.returns
returns c = image-written _ _ _ _ _ _ c.requires.0 refl c.put_bytes.ensures c.put_bytes-2.ensures
