use mathlib.Core.Path.{ap}
use Prim.Native.Nat.{◌%◌}
use Rattle.words.proofs.lists.find_next.Goals as goal

pub next-at-requires : goal.next-at-requires
next-at-requires c = (_, _, c.requires.1, c.requires.2)

pub along-requires : goal.along-requires
along-requires c = (_, c.requires.1)

pub returns : goal.returns
returns c = λ P o l e. c.along.ensures P _ o l (rw (ap (λ w. w % 256) e) at (c.next-at.ensures _ P o l))
