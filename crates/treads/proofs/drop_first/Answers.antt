use mathlib.Core.Path.{refl}
use Rattle.treads.proofs.Dropping.{rest-ready, rest-held}
use Rattle.treads.proofs.drop_first.Goals as goal

pub entered-w-requires : goal.entered-w-requires
entered-w-requires c = record { valids = (rest-ready c.requires.0.4 c.requires.1).0; levels = (rest-ready c.requires.0.4 c.requires.1).1 }

pub returns : goal.returns
returns c = record { top = refl; held = λ cells f g a bare h. rest-held bare h c.entered-w.ensures refl }
