use Prim.Native.Nat.{◌-◌}
use lib.ListN.{take}
use mathlib.Core.Path.{sym as inv, subst}
use Rattle.heap.specs.Heap.{Whole}
use Rattle.heapgoals.specs.HoldLaws.{holds-levels, held-row}
use Rattle.heapgoals.proofs.Shows.{part-long, part-fore}
use Rattle.heapgoals.proofs.Outs.{holds-placed, used-part, least_other, other-held}
use Rattle.heapgoals.proofs.writing.is_other.Goals as goal

pub returns-then-saved-s : goal.returns-then-saved-s
returns-then-saved-s c = record { other = λ e f g a h. least_other h c.args.saved.now c.if-saved-s.true; held = λ g a h. h }

pub differs-requires : goal.differs-requires
differs-requires c = let p = holds-placed c.requires.holds.3 (used-part c.args.words.now c.args.s) in record { made = (p.made, subst (λ z. Whole z 1 c.args.s.at) (inv (used-part c.args.words.now c.args.s)) (held-row c.requires.holds.3), part-long c.args.levels.now p.levels_long); valids = c.requires.valids }

pub returns : goal.returns
returns c = record { other = λ e f g a h. other-held h c.args.saved.now (take (c.args.s.top - 0) c.args.words.now) (used-part c.args.words.now c.args.s) (c.differs.ensures e); held = λ g a h. holds-levels (part-fore c.args.levels.now c.differs.new.levels h.levels_long c.differs.auto.levels) h }
