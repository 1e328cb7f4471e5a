use Prim.Native.Nat.{◌+◌, ◌-◌}
use Rattle.rides.proofs.Stands.{start-within, start_small, part-long, sided, clean}
use native.Mathlib.Omega.{arith}
use mathlib.Core.Path.{refl, ◌∙◌}
use Rattle.rides.proofs.stand_at.Goals as goal

pub overflow_add-n : goal.overflow_add-n
overflow_add-n c = record { fits = omega (arith, start_small c.requires.3) }

pub slice_bounds-stand-end : goal.slice_bounds-stand-end
slice_bounds-stand-end c = start-within c.requires.3

pub stand-requires : goal.stand-requires
stand-requires c = (_, _, _, sided c.requires.3 _ (c.args.start.place.words + c.args.start.place.answer - 0) (omega arith) refl)

pub returns : goal.returns
returns c = record { held = (λ P q saved y cells levels free cl ll. c.stand.ensures.held _ _ _ (sided y _ (c.args.start.place.words + c.args.start.place.answer - 0) (omega arith) refl) _ cells levels (clean y _ (c.args.start.place.words + c.args.start.place.answer - 0) (omega arith) refl cells levels free cl ll)); top = c.stand.ensures.top ∙ part-long c.requires.3 _ (c.args.start.place.words + c.args.start.place.answer - 0) (omega arith) refl }
